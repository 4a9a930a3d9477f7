-- Allocation failure: some kind has no spare capacity.
use Rattle.art_steps.proofs.Names.{◌≡◌, ◌∙◌, ℕ, zero, suc, ◌≤◌, Result, Ok, Err, OnErr, IsOk, true, false, refl, sym, ap, subst, inl, inr, arith, cases_lt, NodeType, NodeArena, room, SameCapacity, SameOtherCapacity, SameRoom, same_or_differ, GrowsOnlyWhere}

-- what is refused, and is not where there is one, is refused where there is none
pub none-left : {T E : Type 0} (r : Result T E) (n : ℕ) → (1 ≤ n → IsOk r) → (e : E) → r ≡ Err e → n ≡ 0
none-left r zero ok e is = refl
none-left {T} {E} r (suc n) ok e is =
    let wrong : IsOk {T = T} (Err e) = subst IsOk is (ok (omega arith)) in
    let never : false ≡ true = wrong in
    absurd (cc)

pub none-on-err : {K V : Type 0} {P : ℕ} {T E : Type 0} (r : Result T E) (arena : NodeArena K V P) (kind : NodeType) → (1 ≤ room arena kind → IsOk r) → OnErr r (room arena kind ≡ 0)
none-on-err (Ok x) arena kind ok = tt
none-on-err {T = T} (Err e) arena kind ok = none-left {T = T} (Err e) (room arena kind) ok e refl

-- an implication holds on an error
pub on-err-then : {T E : Type 0} (r : Result T E) (A B : Type 0) → (A → B) → OnErr r A → OnErr r B
on-err-then (Ok x) A B follows holds = tt
on-err-then (Err e) A B follows holds = follows holds

-- the same spare capacity and capacity are the same spare capacity, and the same capacity
module _ {K V : Type 0} {P : ℕ} (old new : NodeArena K V P) (same : SameRoom old new) where
  pub same-room : (kind : NodeType) → room new kind ≡ room old kind
  same-room kind = ap (λ both. both.0) (same kind)

  pub same-capacity : SameCapacity old new
  same-capacity kind = ap (λ both. both.1) (same kind)

module _ {K V : Type 0} {P : ℕ} where
  -- this is the reserved kind, and it has no spare capacity
  abbrev pub IsAsked : NodeArena K V P → NodeType → NodeType → Type 0
  IsAsked old kind other = (other ≡ kind) × (room old other ≡ 0)

  -- reserving a kind changes the capacity of that kind alone, and only where it had no spare capacity
  pub asked-grows : (old new : NodeArena K V P) (kind : NodeType) → (1 ≤ room old kind → SameCapacity old new) → SameOtherCapacity old new kind → GrowsOnlyWhere old new (IsAsked old kind)
  asked-grows old new kind had others other = elim (same_or_differ other kind) [
    | inr differ ↦ inl (others other differ)
    | inl same ↦ elim (cases_lt 0 (room old kind)) [
      | inl some ↦ inl (had (omega (arith, some)) other)
      | inr none ↦ inr (same, subst (λ k. room old k ≡ 0) (sym same) (omega (arith, none)))
    ]
  ]

  -- the condition on a kind may be weakened
  pub grows-then : (old new : NodeArena K V P) (A B : NodeType → Type 0) → ((kind : NodeType) → A kind → B kind) → GrowsOnlyWhere old new A → GrowsOnlyWhere old new B
  grows-then old new A B follows grows kind = elim (grows kind) [ inl same ↦ inl same | inr needed ↦ inr (follows kind needed) ]

  -- later steps that change no capacity
  pub grows-on : (old mid new : NodeArena K V P) (A : NodeType → Type 0) → GrowsOnlyWhere old mid A → SameCapacity mid new → GrowsOnlyWhere old new A
  grows-on old mid new A grows same kind = elim (grows kind) [ inl before ↦ inl (same kind ∙ before) | inr needed ↦ inr needed ]

  -- two steps with one condition
  pub grows-twice : (old mid new : NodeArena K V P) (A : NodeType → Type 0) → GrowsOnlyWhere old mid A → GrowsOnlyWhere mid new A → GrowsOnlyWhere old new A
  grows-twice old mid new A first second kind = elim (second kind) [
    | inr needed ↦ inr needed
    | inl after ↦ elim (first kind) [ inl before ↦ inl (after ∙ before) | inr needed ↦ inr needed ]
  ]
