-- A closure that calls another one at the same network and value.
use Rattle.std.proofs.Common.{inl, inr, Bool, List, [], ◌∷◌, subst, sym}
use Rattle.std.specs.List.{FoldsTo}
use Rattle.std.specs.Map.Calls.{CallableOnEachPair, CalledAtPair, RetainsPairs, SomeCallAtPair, TakesPair}
use Rattle.art_routes.specs.Retaining.{StopsRetaining}
use denote.Param.Members.{Called, Mut}
use denote.Ref.{Bor, MutBor}

module _ {C F K V : Type 0} (outer : Mut C (Bor K × (MutBor V × Unit {0})) (Bool × (MutBor V × Unit {0}))) (inner : Mut F (Bor K × (MutBor V × Unit {0})) (Bool × (MutBor V × Unit {0}))) (held : C → F) where
  -- the outer one may be called where the inner one may
  abbrev pub TakesThrough : Type 0
  TakesThrough = (s : C) (p : Bor K) (q : MutBor V) → TakesPair inner (held s) p.now q.now → outer.pre s (p, (q, tt))

  -- and a call of it is one of the inner one
  abbrev pub CallsThrough : Type 0
  CallsThrough = (s : C) (p : Bor K) (q : MutBor V) (b : Bool) (left : MutBor V) (s' : C) → Called outer s (p, (q, tt)) (b, (left, tt)) s' → CalledAtPair inner (held s) p.now q.now b left.now (held s')

  module _ (calls : CallsThrough) where
    called-through : (s : C) (k : K) (v : V) (b : Bool) (w : V) (s' : C) → CalledAtPair outer s k v b w s' → CalledAtPair inner (held s) k v b w (held s')
    called-through s k v b w s' call =
        subst (λ x. CalledAtPair inner (held s) x v b w (held s')) call.shows.0
        (subst (λ x. CalledAtPair inner (held s) call.key.now x b w (held s')) call.shows.1
        (subst (λ x. CalledAtPair inner (held s) call.key.now call.value.now b x (held s')) call.leaves
        (calls s call.key call.value b call.left s' call.called)))

    folds-through : (es : List (K × V)) (s s' : C) → FoldsTo (SomeCallAtPair (CalledAtPair outer)) s es s' → FoldsTo (SomeCallAtPair (CalledAtPair inner)) (held s) es (held s')
    folds-through [] s s' same = λ i. held (same i)
    folds-through (e ∷ es) s s' (next, (b, w, call), folds) = (held next, (b, w, called-through s e.0 e.1 b w next call), folds-through es next s' folds)

    pub callable-through : TakesThrough → (s : C) (es : List (K × V)) → CallableOnEachPair (CalledAtPair inner) (TakesPair inner) (held s) es → CallableOnEachPair (CalledAtPair outer) (TakesPair outer) s es
    callable-through takes s es callable = record {
      at = λ before after s' k v is folds p q keys values.
          let there = callable.at before after (held s') k v is (folds-through before s s' folds) in
          takes s' p q (subst (λ x. TakesPair inner (held s') x q.now) (sym keys) (subst (λ x. TakesPair inner (held s') k x) (sym values) there));
    }

    pub retains-through : (s : C) (old new : List (K × V)) → RetainsPairs (CalledAtPair outer) s old new → RetainsPairs (CalledAtPair inner) (held s) old new
    retains-through s [] new none = none
    retains-through s (e ∷ es) new (b, w, next, rest, call, later, is) = (b, w, held next, rest, called-through s e.0 e.1 b w next call, retains-through next es rest later, is)

    pub stops-through : (needs : K → Type 0) (s : C) (old new : List (K × V)) → StopsRetaining (CalledAtPair outer) needs s old new → StopsRetaining (CalledAtPair inner) needs (held s) old new
    stops-through needs s [] new stops = stops
    stops-through needs s (e ∷ es) new (b, w, next, call, inl refused) = (b, w, held next, called-through s e.0 e.1 b w next call, inl refused)
    stops-through needs s (e ∷ es) new (b, w, next, call, inr (rest, later, is)) = (b, w, held next, called-through s e.0 e.1 b w next call, inr (rest, stops-through needs next es rest later, is))
