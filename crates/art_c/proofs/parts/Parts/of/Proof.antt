-- The box is taken apart, and the parts own what it owned.
use Rattle.std.proofs.Common.{◌≡◌, List, [], ◌∷◌, ◌++◌, refl, sym, ap, subst, ◌∙◌}
use base.Logic.{SProp, ent, id⊢, never, fst∗}
use base.Fml.{ftrue, flft, fsep}
use mir.MapTy.{inst_fn}
use mir.Syntax.{a_type, dcons, dnil}
use mir.Val.{Val, vstruct, of_list}
use prog.Wp.{WpFn}
use contract.BorrowLft.{◌⊑◌}
use contract.Monad.{fact}
use contract.Running.{tables}
use types.Kit.{‵, raw, ◌⊛◌, some, later, ◌$◌, ◌∵◌, !, qed, move, drop, use1, join, split, split3, fsplit, fjoin, pick, rewrite, suffices, await, done, fpick, feq_l}
use types.Part.{whole, sub, agg}
use types.Run.{stop, fld, no_more, and_then, of_opd, returns, enter}
use types.ByLocal.{alloc_all, pass_all, free_all, look_at, get, get_in, sets, lands_as}
use denote.Exit.{no}
use denote.Param.{bounded}
use denote.RawPtr.{block_ptr, Ptr, RawPtr, null_ptr, ptr_val, in_a_block}
use denote.Signature.{plain}
use denote.Steps.{heard, nothing, only}
use denote.Triple.Call.{calls_at}
use denote.Triple.Spec.{triple_of}
use denote.Triple.Table.{framed}
use denote.Triple.Walked.{says, Stays, stay_dropped, walk_of, ends_at}
use Rattle.core.proofs.alloc.Calls.{token, Goes-blank, handle_tells}
use Rattle.std.proofs.raw_atomic.Walks.{proved_at}
use Rattle.std_alloc.specs.Box.Ownership.{box_owns}
use Rattle.std_alloc.proofs.BoxSteps.Form.{Bx, D, R, P, B, word, box_typed, τ}
use Rattle.std_alloc.proofs.BoxSteps.Steps.{box_out, box_in}
use mir.Raw.{raw as bare}
use types.Logic.{sem}
use denote.Struct.Tuple.{Tuple}
use Rattle.std_alloc.specs.contracts.boxed.Box.into_raw_with_allocator as callee
use Rattle.std_alloc.proofs.boxed.Box.into_raw_with_allocator.Met.{met}
use Rattle.art_c.specs.contracts.parts.Parts as parts
use Rattle.art_c.specs.contracts.parts.Parts.of as f
use Rattle.art_c.proofs.parts.Parts.of.Statement.{statement}
use Rattle.art_c.proofs.parts.Parts.of.Code as code

pub of_spec : {M : Type 1} → statement M
of_spec 𝓤 𝓛 𝓜 𝓡 wired X A LX LA g d dd dx allocator drops dropped =
    let H = 𝓛.H in let 𝓣 = tables 𝓤 H 𝓜 𝓡 𝓡.env in
    let E : Bx = record { row = X; laws = LX; al = record { row = A; laws = LA; g = g; d = d; drops = dd } } in
    let args = bounded (a_type ∷ a_type ∷ []) (X, (A, tt)) (dcons d (dcons dd (dcons dx dnil))) in let fn = inst_fn args code.function in
    let ended = f.ended X A g d dd dx in let c = f.clauses X A g d dd dx 𝓛 𝓜.mem 𝓡.returns in
    let From = plain (λ _. B E) in
    let hs : Stays ended.signature.params ended.kept = (stay_dropped From no, tt) in
    proved_at 𝓛 ended hs c 𝓜 𝓡 (Goes-blank 𝓛 2 From no (λ κs x w. tt), tt) (f.Key.name args) fn (code.unfolded 𝓤 H 𝓜 𝓡 wired (X, (A, tt)) d dd dx) (λ z are.
    let κs = z.0.0 in let qs = z.0.1 in let boxed = z.0.3.0 in let a = boxed.alloc in let Post = (walk_of 𝓛 ended hs c).post z in
    let Run : List Val → SProp 𝓤 = λ vs. WpFn 𝓤 H 𝓣.C 𝓣.Λ fn vs Post in
    let To = parts.the_row (R E) (P E) g in
    let tokens = ‵ (flft κs.0 qs.0) ⊛ ‵ (flft κs.1.0 qs.1.0) ⊛ ‵ ftrue in
    let Call = triple_of 𝓛 (callee.signature X A g d dd dx) (callee.spec X A g d dd dx 𝓛 𝓜.mem 𝓡.returns) in
    let Pair = Tuple (RawPtr ∷ P E ∷ []) in
    qed 𝓛 ((tokens ⊛ ‵ (fsep ((B E).own_val boxed z.0.4.0) ftrue)) ∷ (raw (fact 𝓤 (κs.0 ⊑ X.lives)) ⊛ raw (fact 𝓤 (κs.1.0 ⊑ A.lives)) ⊛ ‵ ftrue) ∷ []) ∵
    split ! $ move ! (1 ∷ []) $ fsplit ! $ box_out E ! boxed z.0.4.0 (λ b o handle e is_word fits. box_in E ! boxed b o boxed.value e refl $
    let w = word E handle b o in let typed = box_typed E handle b o fits in
    let y : Call.Ghost = ((κs, qs, tt, (boxed, tt), (w ∷ [], tt)), tt) in
    -- [the box; nothing; the tokens; the lifetimes]
    suffices ! (Run (w ∷ [])) (subst (λ (us : List Val). ent 𝓤 (Run (w ∷ [])) (Run (us ++ []))) (sym is_word) (id⊢ 𝓤 _)) $
    enter ! 𝓣.C 𝓣.Λ fn (w ∷ []) Post $ alloc_all ! (λ l. pass_all ! refl (typed, tt) $ sets ! (of_opd ! (get ! refl)) refl typed $
    fjoin ! $ move ! (1 ∷ 0 ∷ []) $ join ! $ join ! $ use1 𝓛 (raw (Call.pre y)) (id⊢ 𝓤 _) $
    calls_at ! (framed 𝓤 H 𝓜 𝓣) Call (met 𝓤 𝓛 𝓜 𝓡 (code.calls-std_alloc::boxed::Box::into_raw_with_allocator 𝓡.env wired) X A LX LA g d dd dx allocator drops dropped) y (and_then ! (get ! refl) (no_more !)) (λ u.
    use1 𝓛 (later (some (λ (r : Ptr × A.Denot). (tokens ⊛ ‵ (Pair.own_val r (u ∷ []))) ⊛ some (λ (_ : (Unit {0} × (Unit {0} × Unit {0})) × Unit {0}). ‵ (fsep (fsep ftrue (fsep ftrue ftrue)) ftrue) ⊛ (raw (fact 𝓤 (r.1 ≡ a)) ⊛ ‵ (box_owns (token E.al a) (R E) r.0 boxed.value)))))) (id⊢ 𝓤 _) $
    await ! tt $ pick ! (λ r. split ! $ move ! (1 ∷ []) $ pick ! (λ _. split3 ! $ drop ! $ heard ! (r.1 ≡ a) (λ same_alloc.
    in_a_block ! r.0 (λ p. box_owns (token E.al a) (R E) p boxed.value) (fst∗ 𝓤 (never 𝓤) (sem 𝓛 (token E.al a (bare (τ E)) null_ptr))) (λ b' o' e'.
    -- the pair, as its address and its allocator
    move ! (1 ∷ []) $ split ! $ move ! (1 ∷ []) $ fpick ! (λ vss. fsplit ! $ feq_l ! (λ is_pair. fsplit ! $ feq_l ! (λ is_ptr. fsplit ! $
    rewrite ! 0 (λ (x : A.Denot). ‵ (A.own_val x vss.1.0)) same_alloc refl $ handle_tells E.al ! a vss.1.0 (λ handle' is_handle fits'.
    let w' = word E handle' b' o' in let typed' = box_typed E handle' b' o' fits' in
    let d' : D E = record { ptr = block_ptr b' o'; alloc = a; value = boxed.value } in
    let made : To.Denot = record { ptr = block_ptr b' o'; alloc = a; value = boxed.value } in
    lands_as ! (ap only (is_pair ∙ (λ i. vstruct (of_list ((is_ptr ∙ ap (λ (p : Ptr). ptr_val p ∷ []) e') i ++ (is_handle i ++ []))) ∷ []))) refl typed' $
    sets ! (of_opd ! (get_in ! (fld ! refl (stop !)) (sub ! 0 refl (whole !)))) refl (tt, tt) $
    sets ! (of_opd ! (get_in ! (fld ! refl (stop !)) (sub ! 1 refl (whole !)))) refl fits' $
    sets ! (of_opd ! (get ! refl)) refl fits' $
    sets ! (agg ! (and_then ! (get ! refl) (and_then ! (get ! refl) (no_more !)))) refl typed' $
    returns ! (look_at ! 0 refl) $ free_all ! refl $
    move ! (3 ∷ []) $ fsplit ! $ box_in E ! d' b' o' boxed.value refl refl $ use1 𝓛 (‵ (To.own_val made (w' ∷ []))) (id⊢ 𝓤 _) $ move ! (1 ∷ []) $ drop ! $
    suffices ! _ (ends_at 𝓛 ended hs c z w' made ((tt, (tt, tt)), tt) (tt, tt)) $ says ! refl $
    nothing ! $ nothing ! $ fjoin ! $ join ! $ move ! (1 ∷ 0 ∷ []) $ join ! $ done !))))))))))))
