-- The two fields move: what the parts own is what the handle owns.
use Rattle.std.proofs.Common.{List, [], ◌∷◌, ◌++◌, refl, sym, subst, Some}
use base.Logic.{ent, id⊢}
use base.Fml.{ftrue, fsep}
use mir.Val.{Val}
use prog.Wp.{WpFn}
use contract.Running.{tables}
use types.Kit.{‵, ◌⊛◌, ◌$◌, ◌∵◌, !, qed, move, drop, use1, join, split, fsplit, fjoin, suffices, done}
use types.Part.{whole, sub, agg}
use types.Run.{stop, fld, no_more, and_then, of_opd, returns, enter}
use types.ByLocal.{alloc_all, pass_all, free_all, look_at, get, get_in, sets}
use denote.Exit.{yes}
use denote.Signature.{type_at}
use denote.Steps.{nothing}
use denote.Triple.Walked.{says, Stays, stay_dropped, walk_of, ends_at, Goes-dropped}
use Rattle.std.proofs.raw_atomic.Walks.{proved_at}
use Rattle.std_alloc.proofs.BoxSteps.Form.{D, B, word, box_typed}
use Rattle.std_alloc.proofs.BoxSteps.Steps.{box_out, box_in}
use Rattle.art_c.proofs.HeldBox.{E, FromParts}
use Rattle.art_c.specs.contracts.handle.Handle.of_parts as f
use Rattle.art_c.proofs.handle.Handle.of_parts.Statement.{statement}
use Rattle.art_c.proofs.handle.Handle.of_parts.Code as code

pub of_parts_spec : {M : Type 1} → statement M
of_parts_spec 𝓤 𝓛 𝓜 𝓡 wired =
    let H = 𝓛.H in let 𝓣 = tables 𝓤 H 𝓜 𝓡 𝓡.env in let c = f.clauses 𝓛 𝓜.mem 𝓡.returns in let fn = code.function in
    let hs : Stays f.ended.signature.params f.ended.kept = (stay_dropped FromParts yes, tt) in
    proved_at 𝓛 f.ended hs c 𝓜 𝓡 (Goes-dropped 𝓛 0 FromParts yes (λ κs x w. refl), tt) f.Key.name fn (code.unfolded 𝓤 H 𝓜 𝓡 wired) (λ z are.
    let Post = (walk_of 𝓛 f.ended hs c).post z in
    let parts = z.0.3.0 in
    let boxed : D E = record { ptr = parts.ptr; alloc = parts.alloc; value = parts.value } in
    let To = type_at f.signature.result tt in
    let made : To.Denot = record { ptr = parts.ptr; alloc = parts.alloc; held = Some parts.value } in
    qed 𝓛 ((‵ ftrue ⊛ ‵ (fsep ((B E).own_val boxed z.0.4.0) ftrue)) ∷ ‵ ftrue ∷ []) ∵ split ! $ drop ! $ fsplit ! $
    box_out E ! boxed z.0.4.0 (λ b o handle e is_word fits. box_in E ! boxed b o boxed.value e refl $
    let w = word E handle b o in let typed = box_typed E handle b o fits in
    use1 𝓛 (‵ (To.own_val made (w ∷ []))) (id⊢ 𝓤 _) $ move ! (1 ∷ 2 ∷ []) $ drop ! $ drop ! $
    suffices ! (WpFn 𝓤 H 𝓣.C 𝓣.Λ fn (w ∷ []) Post) (subst (λ (us : List Val). ent 𝓤 (WpFn 𝓤 H 𝓣.C 𝓣.Λ fn (w ∷ []) Post) (WpFn 𝓤 H 𝓣.C 𝓣.Λ fn (us ++ []) Post)) (sym is_word) (id⊢ 𝓤 _)) $
    enter ! 𝓣.C 𝓣.Λ fn (w ∷ []) _ $ alloc_all ! (λ l. pass_all ! refl (typed, tt) $
    sets ! (of_opd ! (get_in ! (fld ! refl (stop !)) (sub ! 0 refl (whole !)))) refl (tt, tt) $
    sets ! (of_opd ! (get_in ! (fld ! refl (stop !)) (sub ! 1 refl (whole !)))) refl fits $
    sets ! (of_opd ! (get ! refl)) refl (tt, tt) $
    sets ! (agg ! (and_then ! (get ! refl) (and_then ! (get ! refl) (no_more !)))) refl typed $
    returns ! (look_at ! 0 refl) $ free_all ! refl $
    suffices ! _ (ends_at 𝓛 f.ended hs c z w made (tt, tt) (tt, tt)) $ says ! refl $
    nothing ! $ nothing ! $ fjoin ! $ join ! $ nothing ! $ join ! $ done !)))
