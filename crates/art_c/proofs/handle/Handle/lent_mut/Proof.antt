-- At null there is no map, and the handle is as it was. Else what lies behind is lent, and the handle follows it.
use Rattle.std.proofs.Common.{◌≡◌, ℕ, List, [], ◌∷◌, ◌++◌, refl, sym, ap, subst, ◌∙◌, Option, Some, None}
use seplogic.Ra.Ura.{Ura}
use base.Fraction.{full_share}
use base.Logic.{SProp, ent, sep, id⊢}
use base.Fml.{Fml, GName, ftrue, fsep, flft, fres}
use mir.Syntax.{Body, named, seq, assign, place, rv_opd, copy, aggregate, int, w8}
use mir.Raw.{raw as bare}
use mir.Val.{Val, vptr, vcons, vnil}
use prog.Wp.{WpFn, Wp, after_seq, at_return}
use contract.Running.{tables}
use types.Logic.{Logic, sem}
use types.Kit.{‵, ◌⊛◌, some, later, ◌$◌, ◌∵◌, !, qed, at_ret, any_q, move, keep, drop, use0, use1, join, split, split3, group, pick, await, rewrite, fsplit, fsplit3, fjoin, fpack, feq_i, suffices, frame, done}
use types.Match.{live}
use types.Part.{whole, sub, agg, look_in}
use types.Run.{stop, fld, lit, load, addr, no_more, and_then, of_opd, bin, first, blocks, branches, exec, returns, enter}
use types.ByLocal.{alloc_all, pass_all, free_all, look_at, get, through, sets, sets_last, env}
use denote.Exit.{no}
use denote.Follow.{follows, follows_by, lends_Part}
use denote.Laws.{shows}
use denote.Memory.{cell_at, part_at, part_of, mem, lone}
use denote.RattleType.{RattleType, owns}
use denote.RawPtr.{Ptr, block_ptr, null_ptr, tests_null}
use denote.Ref.{MutRef, MutBor}
use denote.Signature.{types_at, plain, mut_ref_to}
use denote.Steps.{nothing, opens, closes, peeks}
use denote.Struct.Struct.{Struct}
use denote.Struct.Owning.{shape, to}
use denote.Triple.Walked.{says, Stays, stay_dropped, walk_of, ends_at, Goes-spent_ref}
use lib.Dec.{lit<}
use Rattle.core.proofs.alloc.Shapes.{after}
use Rattle.core.proofs.option.Made.{Some-of, none_of}
use Rattle.core.specs.contracts.option.Option as Opt
use Rattle.std.proofs.raw_atomic.Walks.{proved_at}
use Rattle.std_heap.specs.contracts.GlobalAllocator.TheImpl.{ghosts}
use Rattle.std.specs.Box.Ownership.{box_owns}
use Rattle.art_c.proofs.Behind.{either_behind}
use Rattle.art_c.specs.Handles.{held_row, owns_behind}
use Rattle.art_c.specs.Lending.{with_held}
use Rattle.art_c.specs.contracts.handle.Handle.{the_row as Self, the_type}
use Rattle.art_c.specs.contracts.handle.Handle.lent_mut as f
use Rattle.art_c.proofs.handle.Handle.TheLaws.{lowers}
use Rattle.art_c.proofs.handle.Handle.lent_mut.Statement.{statement}
use Rattle.art_c.proofs.handle.Handle.lent_mut.Code as code

-- what the fields of a handle own, and the right to free the block behind it
abbrev Fields : Self.Denot → List Val → Fml
Fields me us = (Struct (shape the_type)).own_val (to the_type me) us

abbrev Frees : Self.Denot → ℕ → ℕ → Fml
Frees me b o = ghosts.dealloc_token me.alloc (bare (lone held_row.mir)) (block_ptr b o)

-- a handle but for its map
abbrev Rest : Self.Denot → List Val → (rb ro b o : ℕ) → Fml
Rest me us rb ro b o = fsep (fsep (Frees me b o) (Fields me us)) (cell_at full_share Self.mir us rb ro)

module _ {M : Type 1} {𝓤 : Ura M} (𝓛 : Logic 𝓤) (me : Self.Denot) (us : List Val) (rb ro b o : ℕ) (at : me.ptr ≡ block_ptr b o) where
  back : (w : held_row.Denot) → ent 𝓤 (sep 𝓤 (sem 𝓛 ((mem held_row).own_at w b o)) (sem 𝓛 (Rest me us rb ro b o))) (sem 𝓛 ((mem Self).own_at (with_held me w) rb ro))
  unfolding part_of
  back w =
      qed 𝓛 (‵ (part_at held_row full_share w b o) ∷ ‵ (Rest me us rb ro b o) ∷ []) ∵ move ! (1 ∷ []) $ fsplit ! $ fsplit ! $
      move ! (3 ∷ 0 ∷ []) $ fjoin ! $ rewrite ! 0 (λ (p : Ptr). ‵ (box_owns (ghosts.dealloc_token me.alloc) held_row p w)) (sym at) refl $ move ! (1 ∷ 0 ∷ []) $ fjoin ! $ move ! (1 ∷ 0 ∷ []) $ fjoin ! $
      fpack ! (List Val) (λ vs. fsep (cell_at full_share Self.mir vs rb ro) (Self.own_val (with_held me w) vs)) us $ done !

-- the rest of the branch that found a map
abbrev wraps : Body
wraps = seq (assign (place 6 []) (rv_opd (copy (place 7 [])))) (assign (place 5 []) (aggregate (int w8 1 ∷ copy (place 6 []) ∷ [])))

pub lent_mut_spec : {M : Type 1} → statement M
unfolding follows_by
lent_mut_spec 𝓤 𝓛 𝓜 𝓡 wired =
    let H = 𝓛.H in let 𝓣 = tables 𝓤 H 𝓜 𝓡 𝓡.env in let c = f.clauses 𝓛 𝓜.mem 𝓡.returns in let fn = code.function in
    let hs : Stays f.ended.signature.params f.ended.kept = (stay_dropped (mut_ref_to (0 ∷ []) tt (plain (λ _. Self))) no, tt) in
    proved_at 𝓛 f.ended hs c 𝓜 𝓡 (Goes-spent_ref 𝓛 1 (0 ∷ []) tt (plain (λ _. Self)), tt) f.Key.name fn (code.unfolded 𝓤 H 𝓜 𝓡 wired) (λ z are.
    let κ = z.0.0.0 in let q = z.0.1.0 in let me = z.0.3.0.now in let γ = z.0.3.0.ghost_name in let b = z.0.3.0.ref_ptr.0 in let o = z.0.3.0.ref_ptr.1 in
    let Post = (walk_of 𝓛 f.ended hs c).post z in let Run : List Val → SProp 𝓤 = λ vs. WpFn 𝓤 H 𝓣.C 𝓣.Λ fn vs Post in
    let Lent : RattleType = MutRef (named 0) κ held_row in
    qed 𝓛 (((‵ (flft κ q) ⊛ ‵ ftrue) ⊛ ‵ (owns (types_at f.ended.signature.params z.0.0) z.0.3 z.0.4)) ∷ ‵ ftrue ∷ []) ∵
    suffices ! (Run (vptr b o ∷ [])) (subst (λ (us : List Val). ent 𝓤 (Run (vptr b o ∷ [])) (Run (us ++ []))) (sym are.0.0) (id⊢ 𝓤 _)) $
    enter ! 𝓣.C 𝓣.Λ fn (vptr b o ∷ []) Post $ alloc_all ! (λ l. pass_all ! refl ((tt, tt), tt) $ let Ev = env fn.locals l in
    split ! $ split ! $ move ! (2 ∷ []) $ fsplit ! $ fsplit3 ! $ drop ! $ move ! (0 ∷ 1 ∷ 3 ∷ []) $ opens ! tt Self {h = me} b o (λ us. move ! (1 ∷ []) $ peeks ! Self _ (shows 𝓛 Self) me us (λ is. fsplit ! $ move ! (1 ∷ []) $
    -- [what is behind; the fields; the handle's cell; the open borrow, in three; nothing]
    let Cell : List Val → Fml = λ vs. cell_at full_share Self.mir vs b o in
    either_behind held_row me.alloc ! me.ptr me.held
    (λ none null. let word = lowers.val_is me us is ∙ ap (λ (p : Ptr). lowers.lowered (record me { ptr = p }) ∷ []) null in
    rewrite ! 1 (λ (vs : List Val). ‵ (Cell vs)) word refl $
    sets ! (of_opd ! (load ! (through ! refl (fld ! refl (stop !))) (look_in ! 1 (sub ! 0 refl (whole !))))) refl (tt, record { fits = lit< tt }) $
    sets ! (of_opd ! (get ! refl)) refl (tt, record { fits = lit< tt }) $
    sets ! (bin ! (get ! refl) (lit ! tt) tt) refl (tt, tt) $ first ! $ branches ! (get ! refl)
    (λ _. sets_last ! (agg ! (and_then ! (lit ! tt) (no_more !))) refl (tt, (record { fits = lit< tt }, tt)) $
    exec ! 𝓣.C 𝓣.Λ Ev (after 4 fn.body) (at_ret Ev Post) $ sets ! (of_opd ! (get ! refl)) refl (tt, (record { fits = lit< tt }, tt)) $
    rewrite ! 1 (λ (vs : List Val). ‵ (Cell vs)) (sym word) refl $
    feq_i ! Ptr me.ptr null_ptr null $ rewrite ! 0 (λ (held : Option held_row.Denot). ‵ (owns_behind held_row me.alloc me.ptr held)) (sym none) refl $
    move ! (1 ∷ 0 ∷ []) $ fjoin ! $ move ! (1 ∷ 0 ∷ []) $ closes ! tt Self me us b o $
    use1 𝓛 (‵ (fres γ (Self.coded.code me))) (𝓛.names.obs-res γ (Self.coded.code me)) $ use0 𝓛 (‵ ((Opt.the_row Lent).own_val None (live 0 vnil ∷ []))) (none_of 𝓛 Lent) $
    returns ! (look_at ! 0 refl) $ free_all ! refl $ keep ! (0 ∷ 3 ∷ 1 ∷ []) $
    suffices ! _ (ends_at 𝓛 f.ended hs c z (live 0 vnil) None (tt, tt) (tt, tt)) $
    nothing ! $ nothing ! $ fjoin ! $ join ! $ nothing ! $ move ! (2 ∷ 0 ∷ []) $ join ! $ join ! $ frame ! $ says ! (sym none) $ done !)
    (λ wrong. absurd wrong))
    (λ bb bo x there at may. let word = lowers.val_is me us is ∙ ap (λ (p : Ptr). lowers.lowered (record me { ptr = p }) ∷ []) at in
    let F = with_held me in let v : Val = live 1 (vcons (vptr bb bo) vnil) in
    let r : GName → MutBor held_row.Denot = λ γ'. record { ref_ptr = (bb, bo); ghost_name = γ'; now = x } in
    let Then = any_q (after_seq 𝓤 H (Wp 𝓤 H 𝓣.C 𝓣.Λ Ev (after 4 fn.body) (at_return 𝓤 H Ev Post)) (at_return 𝓤 H Ev Post)) in
    fsplit ! $ rewrite ! 3 (λ (vs : List Val). ‵ (Cell vs)) word refl $
    -- [the map; what frees it; the fields; the handle's cell; the open borrow, in three]
    sets ! (of_opd ! (load ! (through ! refl (fld ! refl (stop !))) (look_in ! 3 (sub ! 0 refl (whole !))))) refl (tt, tt) $
    sets ! (of_opd ! (get ! refl)) refl (tt, tt) $
    sets ! (bin ! (get ! refl) (lit ! tt) (tests_null (block_ptr bb bo) may)) refl (tt, tt) $ first ! $ branches ! (get ! refl) (λ wrong. absurd wrong)
    (λ _. first ! $ blocks ! $ sets ! (of_opd ! (get ! refl)) refl (tt, tt) $ sets ! (of_opd ! (get ! refl)) refl (tt, tt) $ sets_last ! (addr ! (through ! refl (stop !))) refl (tt, tt) $
    exec ! 𝓣.C 𝓣.Λ Ev wraps Then $ sets ! (of_opd ! (get ! refl)) refl (tt, tt) $
    sets_last ! (agg ! (and_then ! (lit ! tt) (and_then ! (get ! refl) (no_more !)))) refl (tt, (record { fits = lit< tt }, (tt, tt))) $
    exec ! 𝓣.C 𝓣.Λ Ev (after 4 fn.body) (at_ret Ev Post) $ sets ! (of_opd ! (get ! refl)) refl (tt, (record { fits = lit< tt }, (tt, tt))) $
    rewrite ! 3 (λ (vs : List Val). ‵ (Cell vs)) (sym word) refl $
    move ! (1 ∷ 2 ∷ []) $ fjoin ! $ move ! (0 ∷ 2 ∷ []) $ fjoin ! $ move ! (2 ∷ 3 ∷ 4 ∷ 1 ∷ 0 ∷ []) $ group ! 5 $
    use1 𝓛 (later (some (λ (γ' : GName). ‵ (Lent.own_val (r γ') (vptr bb bo ∷ [])) ⊛ ‵ (flft κ q) ⊛ ‵ (follows Self held_row γ γ' F))))
    (lends_Part 𝓛 Self held_row F (named 0) κ q b o bb bo γ (sem 𝓛 (Rest me us b o bb bo)) (back 𝓛 me us b o bb bo at) (Self.coded.code me) (Self.coded.code me) x) $ await ! tt $ pick ! (λ γ'. split3 ! $
    use1 𝓛 (‵ ((Opt.the_row Lent).own_val (Some (r γ')) (v ∷ []))) (Some-of 𝓛 Lent (r γ') (vptr bb bo)) $
    returns ! (look_at ! 0 refl) $ free_all ! refl $ keep ! (0 ∷ 1 ∷ 2 ∷ []) $
    suffices ! _ (ends_at 𝓛 f.ended hs c z v (Some (r γ')) (tt, tt) (tt, tt)) $
    nothing ! $ nothing ! $ fjoin ! $ join ! $ nothing ! $ move ! (2 ∷ 0 ∷ []) $ join ! $ join ! $ frame ! $ says ! (sym there) $ done !)))))))
