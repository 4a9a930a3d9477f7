-- `from_raw` is given what the parts own, and its box owns it.
use Rattle.std.proofs.Common.{◌≡◌, List, [], ◌∷◌, ◌++◌, refl, sym, ap, subst}
use base.Logic.{SProp, ent, id⊢}
use base.Fml.{ftrue, flft, fsep}
use mir.MapTy.{inst_fn}
use mir.Syntax.{a_type, dcons, dnil, Body, place, copy, assign, rv_opd, seq, return}
use mir.Val.{Val, vptr, has_ty, WT}
use prog.Wp.{WpFn}
use contract.BorrowLft.{◌⊑◌}
use contract.Monad.{fact}
use contract.Running.{tables}
use types.Kit.{‵, raw, ◌⊛◌, some, later, ◌$◌, ◌∵◌, !, qed, move, drop, use1, join, split, split3, fsplit, fjoin, pick, rewrite, suffices, await, done, feq_i, at_ret}
use types.Part.{whole, sub}
use types.Run.{stop, fld, no_more, and_then, of_opd, returns, enter, first, blocks, exec}
use types.ByLocal.{alloc_all, pass_all, free_all, look_at, get, get_in, sets, lands_last, env}
use denote.Exit.{no}
use denote.Param.{bounded}
use denote.RawPtr.{block_ptr}
use denote.Signature.{plain}
use denote.Steps.{heard, nothing, only}
use denote.Triple.Call.{calls_at_last}
use denote.Triple.Spec.{triple_of}
use denote.Triple.Table.{framed}
use denote.Triple.Walked.{says, Stays, stay_dropped, walk_of, ends_at}
use Rattle.core.proofs.alloc.Calls.{Goes-blank}
use Rattle.std.proofs.raw_atomic.Walks.{proved_at}
use Rattle.std_alloc.proofs.BoxSteps.Form.{Bx, D, R, P, B, word, box_typed, box_ty}
use Rattle.std_alloc.proofs.BoxSteps.Steps.{box_out, box_in}
use lib.Dec.{T}
use Rattle.std_alloc.specs.contracts.boxed.Box.from_raw as callee
use Rattle.std_alloc.proofs.boxed.Box.from_raw.Met.{met}
use Rattle.art_c.specs.contracts.parts.Parts as parts
use Rattle.art_c.specs.contracts.parts.Parts.into_box as f
use Rattle.art_c.proofs.parts.Parts.into_box.Statement.{statement}
use Rattle.art_c.proofs.parts.Parts.into_box.Code as code

-- what follows the call
abbrev rest : Body
rest = seq (assign (place 0 []) (rv_opd (copy (place 4 [])))) return

pub into_box_spec : {M : Type 1} → statement M
into_box_spec 𝓤 𝓛 𝓜 𝓡 wired X A LX LA g d dd allocator drops =
    let H = 𝓛.H in let 𝓣 = tables 𝓤 H 𝓜 𝓡 𝓡.env in
    let E : Bx = record { row = X; laws = LX; al = record { row = A; laws = LA; g = g; d = d; drops = dd } } in
    let args = bounded (a_type ∷ a_type ∷ []) (X, (A, tt)) (dcons d (dcons dd dnil)) in let fn = inst_fn args code.function in
    let ended = f.ended X A g d dd in let c = f.clauses X A g d dd 𝓛 𝓜.mem 𝓡.returns in
    let From = plain (λ _. parts.the_row (R E) (P E) g) in
    let hs : Stays ended.signature.params ended.kept = (stay_dropped From no, tt) in
    proved_at 𝓛 ended hs c 𝓜 𝓡 (Goes-blank 𝓛 2 From no (λ κs x w. tt), tt) (f.Key.name args) fn (code.unfolded 𝓤 H 𝓜 𝓡 wired (X, (A, tt)) d dd) (λ z are.
    let κs = z.0.0 in let qs = z.0.1 in let a = z.0.3.0.alloc in let value = z.0.3.0.value in let Post = (walk_of 𝓛 ended hs c).post z in
    let Run : List Val → SProp 𝓤 = λ vs. WpFn 𝓤 H 𝓣.C 𝓣.Λ fn vs Post in
    let boxed : D E = record { ptr = z.0.3.0.ptr; alloc = a; value = value } in
    let tokens = ‵ (flft κs.0 qs.0) ⊛ ‵ (flft κs.1.0 qs.1.0) ⊛ ‵ ftrue in
    let Call = triple_of 𝓛 (callee.signature X A g d dd) (callee.spec X A g d dd 𝓛 𝓜.mem 𝓡.returns) in
    qed 𝓛 ((tokens ⊛ ‵ (fsep ((B E).own_val boxed z.0.4.0) ftrue)) ∷ (raw (fact 𝓤 (κs.0 ⊑ X.lives)) ⊛ raw (fact 𝓤 (κs.1.0 ⊑ A.lives)) ⊛ ‵ ftrue) ∷ []) ∵
    split ! $ move ! (1 ∷ []) $ fsplit ! $ box_out E ! boxed z.0.4.0 (λ b o handle e is_word fits. fjoin ! $
    let w = word E handle b o in
    let y : Call.Ghost = ((κs, qs, tt, (a, (block_ptr b o, tt)), (handle ∷ [], (vptr b o ∷ [], tt))), value) in
    -- [what the box owns; the allocator; nothing; the tokens; the lifetimes]
    suffices ! (Run (w ∷ [])) (subst (λ (us : List Val). ent 𝓤 (Run (w ∷ [])) (Run (us ++ []))) (sym is_word) (id⊢ 𝓤 _)) $
    enter ! 𝓣.C 𝓣.Λ fn (w ∷ []) Post $ alloc_all ! (λ l. pass_all ! refl (box_typed E handle b o fits, tt) $
    sets ! (of_opd ! (get_in ! (fld ! refl (stop !)) (sub ! 0 refl (whole !)))) refl (tt, tt) $
    sets ! (of_opd ! (get_in ! (fld ! refl (stop !)) (sub ! 1 refl (whole !)))) refl fits $
    first ! $ blocks ! $ sets ! (of_opd ! (get ! refl)) refl fits $
    move ! (4 ∷ []) $ split3 ! $ move ! (2 ∷ []) $ drop ! $ move ! (1 ∷ 2 ∷ []) $ join ! $ move ! (1 ∷ 0 ∷ []) $ join ! $
    move ! (2 ∷ []) $ feq_i ! (List Val) (vptr b o ∷ []) (vptr b o ∷ []) refl $ fjoin ! $ move ! (2 ∷ 0 ∷ []) $ fjoin ! $ move ! (2 ∷ 0 ∷ []) $ join ! $ join ! $
    use1 𝓛 (raw (Call.pre y)) (id⊢ 𝓤 _) $
    calls_at_last ! (framed 𝓤 H 𝓜 𝓣) Call (met 𝓤 𝓛 𝓜 𝓡 (code.calls-std_alloc::boxed::Box::from_raw 𝓡.env wired) X A LX LA g d dd allocator drops) y (and_then ! (get ! refl) (and_then ! (get ! refl) (no_more !))) (λ u.
    use1 𝓛 (later (some (λ (made : D E). (tokens ⊛ ‵ ((B E).own_val made (u ∷ []))) ⊛ some (λ (_ : Unit {0} × (Unit {0} × Unit {0})). ‵ (fsep ftrue (fsep ftrue ftrue)) ⊛ (raw (fact 𝓤 (made.value ≡ value)) ⊛ raw (fact 𝓤 (made.alloc ≡ a))))))) (id⊢ 𝓤 _) $
    await ! tt $ pick ! (λ made. split ! $ move ! (1 ∷ []) $ pick ! (λ _. split3 ! $ drop ! $ heard ! (made.value ≡ value) (λ same. drop ! $ split ! $ move ! (1 ∷ []) $
    box_out E ! made (u ∷ []) (λ b' o' handle' e' is_word' fits'. box_in E ! made b' o' made.value e' refl $
    rewrite ! 0 (λ (us : List Val). ‵ ((B E).own_val made us)) (sym is_word') refl $
    let good : T (has_ty (box_ty E) u) × WT u = subst (λ (v : Val). T (has_ty (box_ty E) v) × WT v) (sym (ap only is_word')) (box_typed E handle' b' o' fits') in
    lands_last ! refl good $ exec ! 𝓣.C 𝓣.Λ (env fn.locals l) rest (at_ret (env fn.locals l) Post) $
    sets ! (of_opd ! (get ! refl)) refl good $ returns ! (look_at ! 0 refl) $ free_all ! refl $
    suffices ! _ (ends_at 𝓛 ended hs c z u made ((tt, (tt, tt)), tt) (tt, tt)) $ says ! same $
    nothing ! $ nothing ! $ fjoin ! $ join ! $ move ! (1 ∷ 0 ∷ []) $ join ! $ done !))))))))
