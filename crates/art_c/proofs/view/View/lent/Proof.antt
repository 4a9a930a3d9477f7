-- At null there is no map. Else the token in the view is borrowed for as long as the view is, so the view's lifetime lasts as long, and the `&` to the map too.
use Rattle.std.proofs.Common.{◌≡◌, ℕ, ◌^◌, List, [], ◌∷◌, ◌++◌, refl, sym, ap, subst, ◌∙◌, Option, Some, None}
use Rattle.std.specs.Prelude.{⊤}
use seplogic.Ra.Ura.{Ura}
use base.Before.{chain}
use base.Fraction.{full_share}
use base.Logic.{SProp, ent, id⊢, upd_i}
use base.Fml.{Fml, GName, Lft, Incl, ftrue, fsep, fseps, fwand, fupd, fdead, flft, fres, fbor, fauth}
use contract.BorrowLft.{meet_⊑_left}
use mir.Syntax.{Body, named, seq, assign, place, rv_opd, copy, aggregate, int, w8}
use mir.Val.{Val, vptr, vcons, vnil}
use prog.Wp.{WpFn, Wp, after_seq, at_return}
use contract.Running.{tables}
use types.Logic.{Logic, sem}
use types.Kit.{‵, ◌⊛◌, ◌$◌, ◌∵◌, !, qed, at_ret, any_q, assume, move, keep, drop, use0, use1, use2, join, split, rewrite, fsplit, fsplit3, fjoin, fpack, feq_i, flt_i, suffices, frame, done}
use types.Match.{live}
use types.Part.{whole, sub, agg, look_in}
use types.Run.{stop, fld, lit, load, addr, no_more, and_then, of_opd, bin, first, blocks, branches, exec, returns, enter}
use types.ByLocal.{alloc_all, pass_all, free_all, look_at, get, through, sets, sets_last, env}
use types.SemTy.{Body as Borrowed}
use types.Tokens.{obor_alter, bor_fracture}
use denote.Exit.{no}
use denote.Follow.{follows_by, such_by}
use denote.Laws.{shows}
use denote.Memory.{cell_at, part_of, mem}
use denote.Opens.{hide}
use denote.RattleType.{RattleType, owns}
use denote.RawPtr.{Ptr, block_ptr, null_ptr, count_of, tests_null, Testable}
use denote.Ref.{ShrRef, Bor}
use denote.Signature.{types_at, plain, mut_ref_to}
use denote.Steps.{nothing, opens, closes, peeks}
use denote.Struct.Lending.{lent_at, lent_at_shr_laws}
use denote.Struct.Struct.{Struct}
use denote.Struct.Owning.{shape, to}
use denote.Triple.Walked.{says, Stays, stay_dropped, walk_of, ends_at, Goes-spent_ref}
use lib.Dec.{lit<}
use Rattle.core.proofs.alloc.Shapes.{after}
use Rattle.core.proofs.option.Made.{Some-of, none_of}
use Rattle.core.specs.contracts.option.Option as Opt
use Rattle.std.proofs.raw_atomic.Walks.{proved_at}
use Rattle.art_c.proofs.held.Held.TheLaws as held
use Rattle.art_c.proofs.Behind.{either_seen}
use Rattle.art_c.specs.Handles.{held_row}
use Rattle.art_c.specs.Views.{seen_behind}
use Rattle.art_c.specs.contracts.view.View.{the_row as Self, the_type}
use Rattle.art_c.specs.contracts.view.View.lent as f
use Rattle.art_c.proofs.view.View.TheLaws.{lowers}
use Rattle.art_c.proofs.view.View.lent.Statement.{statement}
use Rattle.art_c.proofs.view.View.lent.Code as code

-- the fields of a view
abbrev Fields : Self.Denot → List Val → Fml
Fields me us = (Struct (shape the_type)).own_val (to the_type me) us

module _ {M : Type 1} {𝓤 : Ura M} (𝓛 : Logic 𝓤) (κ : Lft) (γ : GName) (me : Self.Denot) (us : List Val) (rb ro b o : ℕ) (x : held_row.Denot) (at : me.ptr ≡ block_ptr b o) (there : me.seen ≡ Some x) (may : Testable me.ptr) where
  abbrev Token : List Fml
  Token = flft me.life me.share ∷ []

  -- the token again, and the view is whole
  restored : ent 𝓤 (sem 𝓛 (fsep (lent_at held_row (block_ptr b o) x me.life) (fsep (Fields me us) (fsep (cell_at full_share Self.mir us rb ro) (fauth γ (Self.coded.code me))))))
      (sem 𝓛 (fwand (fsep (fdead κ) (fseps Token)) (fupd (Borrowed (mem Self) rb ro γ))))
  unfolding fseps part_of
  restored =
      qed 𝓛 (‵ (fsep (lent_at held_row (block_ptr b o) x me.life) (fsep (Fields me us) (fsep (cell_at full_share Self.mir us rb ro) (fauth γ (Self.coded.code me))))) ∷ []) ∵
      assume ! (‵ (fsep (fdead κ) (fseps Token))) $ suffices ! (sem 𝓛 (Borrowed (mem Self) rb ro γ)) (upd_i 𝓤 _) $
      fsplit3 ! $ drop ! $ move ! (2 ∷ []) $ fsplit ! $ rewrite ! 0 (λ (p : Ptr). ‵ (lent_at held_row p x me.life)) (sym at) refl $ flt_i ! (count_of me.ptr) (2 ^ 63) may $ fjoin ! $
      rewrite ! 0 (λ (seen : Option held_row.Denot). ‵ (seen_behind held_row me.life me.ptr seen)) (sym there) refl $ move ! (2 ∷ 0 ∷ []) $ fjoin ! $
      -- [what it sees; the fields, the cell and the name]
      move ! (1 ∷ []) $ fsplit3 ! $ move ! (0 ∷ 3 ∷ []) $ fjoin ! $ move ! (1 ∷ 0 ∷ []) $ fjoin ! $
      fpack ! (List Val) (λ vs. fsep (cell_at full_share Self.mir vs rb ro) (Self.own_val me vs)) us $ fjoin ! $
      fpack ! Self.Denot (λ y. fsep ((mem Self).own_at y rb ro) (fauth γ (Self.coded.code y))) me $ keep ! (0 ∷ []) $ done !

-- the rest of the branch that found a map
abbrev wraps : Body
wraps = seq (assign (place 6 []) (rv_opd (copy (place 7 [])))) (assign (place 5 []) (aggregate (int w8 1 ∷ copy (place 6 []) ∷ [])))

pub lent_spec : {M : Type 1} → statement M
unfolding such_by follows_by fseps
lent_spec {M} 𝓤 𝓛 𝓜 𝓡 wired =
    let H = 𝓛.H in let 𝓣 = tables 𝓤 H 𝓜 𝓡 𝓡.env in let c = f.clauses 𝓛 𝓜.mem 𝓡.returns in let fn = code.function in
    let hs : Stays f.ended.signature.params f.ended.kept = (stay_dropped (mut_ref_to (0 ∷ []) tt (plain (λ _. Self))) no, tt) in
    proved_at 𝓛 f.ended hs c 𝓜 𝓡 (Goes-spent_ref 𝓛 1 (0 ∷ []) tt (plain (λ _. Self)), tt) f.Key.name fn (code.unfolded 𝓤 H 𝓜 𝓡 wired) (λ z are.
    let κ = z.0.0.0 in let q = z.0.1.0 in let me = z.0.3.0.now in let γ = z.0.3.0.ghost_name in let b = z.0.3.0.ref_ptr.0 in let o = z.0.3.0.ref_ptr.1 in
    let life = me.life in let Me = Self.coded.code me in
    let Post = (walk_of 𝓛 f.ended hs c).post z in let Run : List Val → SProp 𝓤 = λ vs. WpFn 𝓤 H 𝓣.C 𝓣.Λ fn vs Post in
    let Ref : RattleType = ShrRef (named 0) κ held_row in
    let Ends : (Self.Denot → Self.Denot) × Self.Denot → Fml = λ s. follows_by Self.Denot Self.Denot Self.coded.code Self.coded.code γ mathlib.Core.Option.none s.0 s.1 in
    let As = (s : (Self.Denot → Self.Denot) × Self.Denot) × ((w : Self.Denot) → ⊤) × (s.1 ≡ me) in
    qed 𝓛 (((‵ (flft κ q) ⊛ ‵ ftrue) ⊛ ‵ (owns (types_at f.ended.signature.params z.0.0) z.0.3 z.0.4)) ∷ ‵ ftrue ∷ []) ∵
    suffices ! (Run (vptr b o ∷ [])) (subst (λ (us : List Val). ent 𝓤 (Run (vptr b o ∷ [])) (Run (us ++ []))) (sym are.0.0) (id⊢ 𝓤 _)) $
    enter ! 𝓣.C 𝓣.Λ fn (vptr b o ∷ []) Post $ alloc_all ! (λ l. pass_all ! refl ((tt, tt), tt) $ let Ev = env fn.locals l in
    split ! $ split ! $ move ! (2 ∷ []) $ fsplit ! $ fsplit3 ! $ drop ! $ move ! (0 ∷ 1 ∷ 3 ∷ []) $ opens ! tt Self {h = me} b o (λ us. move ! (1 ∷ []) $ peeks ! Self _ (shows 𝓛 Self) me us (λ is. fsplit ! $ move ! (1 ∷ []) $
    -- [what it sees; the fields; the view's cell; the open borrow, in three; nothing]
    let Cell : List Val → Fml = λ vs. cell_at full_share Self.mir vs b o in
    either_seen held_row life me.share ! me.ptr me.seen
    (λ none null. let word = lowers.val_is me us is ∙ ap (λ (p : Ptr). lowers.lowered (record me { ptr = p }) ∷ []) null in
    rewrite ! 2 (λ (vs : List Val). ‵ (Cell vs)) word refl $
    sets ! (of_opd ! (load ! (through ! refl (fld ! refl (stop !))) (look_in ! 2 (sub ! 0 refl (whole !))))) refl (tt, record { fits = lit< tt }) $
    sets ! (of_opd ! (get ! refl)) refl (tt, record { fits = lit< tt }) $
    sets ! (bin ! (get ! refl) (lit ! tt) tt) refl (tt, tt) $ first ! $ branches ! (get ! refl)
    (λ _. sets_last ! (agg ! (and_then ! (lit ! tt) (no_more !))) refl (tt, (record { fits = lit< tt }, tt)) $
    exec ! 𝓣.C 𝓣.Λ Ev (after 4 fn.body) (at_ret Ev Post) $ sets ! (of_opd ! (get ! refl)) refl (tt, (record { fits = lit< tt }, tt)) $
    rewrite ! 2 (λ (vs : List Val). ‵ (Cell vs)) (sym word) refl $
    feq_i ! Ptr me.ptr null_ptr null $ rewrite ! 0 (λ (seen : Option held_row.Denot). ‵ (seen_behind held_row life me.ptr seen)) (sym none) refl $
    move ! (1 ∷ 0 ∷ []) $ fjoin ! $ move ! (1 ∷ 0 ∷ []) $ fjoin ! $ move ! (1 ∷ 0 ∷ []) $ closes ! tt Self me us b o $
    use1 𝓛 (‵ (fres γ Me)) (𝓛.names.obs-res γ Me) $ fpack ! As (λ s. Ends s.0) (((λ _. me), me), (λ _. tt), refl) $ use0 𝓛 (‵ ((Opt.the_row Ref).own_val None (live 0 vnil ∷ []))) (none_of 𝓛 Ref) $
    returns ! (look_at ! 0 refl) $ free_all ! refl $ keep ! (0 ∷ 3 ∷ 1 ∷ []) $
    suffices ! _ (ends_at 𝓛 f.ended hs c z (live 0 vnil) None (tt, tt) (tt, tt)) $
    nothing ! $ nothing ! $ fjoin ! $ join ! $ nothing ! $ move ! (2 ∷ 0 ∷ []) $ join ! $ join ! $ frame ! $ says ! (sym none) $ done !)
    (λ wrong. absurd wrong))
    (λ bb bo x there at may. let word = lowers.val_is me us is ∙ ap (λ (p : Ptr). lowers.lowered (record me { ptr = p }) ∷ []) at in
    let v : Val = live 1 (vcons (vptr bb bo) vnil) in let r : Bor held_row.Denot = record { ref_ptr = (bb, bo); now = x } in
    let LentAt : Lft → Fml = lent_at held_row (block_ptr bb bo) x in let laws = lent_at_shr_laws held_row held.the_row_laws.shr_laws (block_ptr bb bo) x in
    let Then = any_q (after_seq 𝓤 H (Wp 𝓤 H 𝓣.C 𝓣.Λ Ev (after 4 fn.body) (at_return 𝓤 H Ev Post)) (at_return 𝓤 H Ev Post)) in
    use1 𝓛 (‵ (LentAt life) ⊛ ‵ (LentAt life)) (laws.contraction M 𝓤 𝓛 life) $ split ! $ rewrite ! 4 (λ (vs : List Val). ‵ (Cell vs)) word refl $
    -- [the `&`; again; the token; the fields; the view's cell; the open borrow, in three]
    sets ! (of_opd ! (load ! (through ! refl (fld ! refl (stop !))) (look_in ! 4 (sub ! 0 refl (whole !))))) refl (tt, tt) $
    sets ! (of_opd ! (get ! refl)) refl (tt, tt) $
    sets ! (bin ! (get ! refl) (lit ! tt) (tests_null (block_ptr bb bo) (subst Testable at may))) refl (tt, tt) $ first ! $ branches ! (get ! refl) (λ wrong. absurd wrong)
    (λ _. first ! $ blocks ! $ sets ! (of_opd ! (get ! refl)) refl (tt, tt) $ sets ! (of_opd ! (get ! refl)) refl (tt, tt) $ sets_last ! (addr ! (through ! refl (stop !))) refl (tt, tt) $
    exec ! 𝓣.C 𝓣.Λ Ev wraps Then $ sets ! (of_opd ! (get ! refl)) refl (tt, tt) $
    sets_last ! (agg ! (and_then ! (lit ! tt) (and_then ! (get ! refl) (no_more !)))) refl (tt, (record { fits = lit< tt }, (tt, tt))) $
    exec ! 𝓣.C 𝓣.Λ Ev (after 4 fn.body) (at_ret Ev Post) $ sets ! (of_opd ! (get ! refl)) refl (tt, (record { fits = lit< tt }, (tt, tt))) $
    rewrite ! 4 (λ (vs : List Val). ‵ (Cell vs)) (sym word) refl $
    -- the view's borrow is closed over the token alone
    move ! (4 ∷ 7 ∷ []) $ fjoin ! $ move ! (4 ∷ 0 ∷ []) $ fjoin ! $ move ! (1 ∷ 0 ∷ []) $ fjoin ! $
    use1 𝓛 (‵ (fwand (fsep (fdead κ) (fseps (flft life me.share ∷ []))) (fupd (Borrowed (mem Self) b o γ)))) (restored 𝓛 κ γ me us b o bb bo x at there may) $
    -- [the way back; the `&`; the token; the open borrow; what was seen of the name]
    nothing ! $ move ! (3 ∷ 0 ∷ []) $ fjoin ! $ move ! (3 ∷ 0 ∷ 1 ∷ []) $ obor_alter ! tt (flft life me.share ∷ []) $
    use1 𝓛 (‵ (fbor κ (flft life me.share)) ⊛ ‵ ftrue) (id⊢ 𝓤 _) $ split ! $ bor_fracture ! tt (λ s. flft life s) me.share $
    nothing ! $ fpack ! (Incl (life ++ κ) life) (λ _. ftrue) (meet_⊑_left life κ) $ move ! (1 ∷ 0 ∷ []) $ fjoin ! $ fpack ! (List Lft) (λ νs. chain νs κ life) (life ∷ []) $
    -- [κ ends before the view's lifetime; nothing; the token of κ; the `&`; what was seen of the name]
    move ! (0 ∷ 3 ∷ []) $ use2 𝓛 (‵ (LentAt κ)) (laws.mono M 𝓤 𝓛 κ life) $ fsplit ! $ drop ! $ hide ! $
    feq_i ! (List Val) (vptr bb bo ∷ []) (vptr bb bo ∷ []) refl $ fjoin ! $ use1 𝓛 (‵ ((Opt.the_row Ref).own_val (Some r) (v ∷ []))) (Some-of 𝓛 Ref r (vptr bb bo)) $
    move ! (3 ∷ []) $ use1 𝓛 (‵ (fres γ Me)) (𝓛.names.obs-res γ Me) $ fpack ! As (λ s. Ends s.0) (((λ _. me), me), (λ _. tt), refl) $
    returns ! (look_at ! 0 refl) $ free_all ! refl $ keep ! (1 ∷ 3 ∷ 0 ∷ []) $
    suffices ! _ (ends_at 𝓛 f.ended hs c z v (Some r) (tt, tt) (tt, tt)) $
    nothing ! $ nothing ! $ fjoin ! $ join ! $ nothing ! $ move ! (2 ∷ 0 ∷ []) $ join ! $ join ! $ frame ! $ says ! (sym there) $ done !))))))
