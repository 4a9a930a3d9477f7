-- At null there is no map. Else the two fields move: what the handle owns is what the parts own.
use Rattle.std.proofs.Common.{List, [], ◌∷◌, ◌++◌, refl, sym, ap, subst, ◌≡◌, ◌∙◌, Some, None}
use base.Logic.{SProp, ent, id⊢}
use base.Fml.{ftrue, fsep}
use mir.Val.{Val, vptr, vstruct, vcons, vnil, of_list, has_ty, WT}
use prog.Wp.{WpFn}
use contract.Running.{tables}
use types.Kit.{‵, ◌⊛◌, ◌$◌, ◌∵◌, !, qed, at_ret, move, keep, drop, use0, use1, join, split, fsplit, fjoin, fpick, fpack, feq_i, feq_l, suffices, done}
use types.Match.{live}
use types.Part.{whole, sub, agg}
use types.Run.{stop, fld, lit, no_more, and_then, of_opd, bin, first, branches, exec, returns, enter}
use types.ByLocal.{alloc_all, pass_all, free_all, look_at, get, get_in, sets, sets_last, env}
use denote.Exit.{yes}
use denote.Param.{layout}
use denote.RattleType.{Valss}
use denote.RawPtr.{RawPtr, Ptr, block_ptr, null_ptr, ptr_val, tests_null}
use denote.Signature.{type_at}
use denote.Steps.{nothing}
use denote.Struct.Owning.{shape}
use denote.Struct.Struct.{within}
use denote.Triple.Walked.{says, Stays, stay_dropped, walk_of, ends_at, Goes-dropped}
use lib.Dec.{T, lit<}
use Rattle.core.proofs.alloc.Calls.{α, handle_tells}
use Rattle.core.proofs.alloc.Shapes.{after}
use Rattle.core.proofs.option.Made.{Some-of, none_of}
use Rattle.std.proofs.raw_atomic.Walks.{proved_at}
use Rattle.std_alloc.proofs.BoxSteps.Form.{box_typed}
use Rattle.std_alloc.proofs.ResultValues.{and_tt}
use Rattle.std_heap.specs.contracts.Global as Heap
use Rattle.std_heap.specs.contracts.GlobalAllocator.TheImpl.{ghosts}
use Rattle.art_c.proofs.Behind.{either_behind}
use Rattle.art_c.proofs.HeldBox.{E, FromHandle}
use Rattle.art_c.specs.contracts.parts.Parts as parts
use Rattle.art_c.specs.contracts.handle.Handle as handles
use Rattle.art_c.specs.contracts.handle.Handle.into_parts as f
use Rattle.art_c.proofs.handle.Handle.into_parts.Statement.{statement}
use Rattle.art_c.proofs.handle.Handle.into_parts.Code as code

pub into_parts_spec : {M : Type 1} → statement M
into_parts_spec 𝓤 𝓛 𝓜 𝓡 wired =
    let H = 𝓛.H in let 𝓣 = tables 𝓤 H 𝓜 𝓡 𝓡.env in let c = f.clauses 𝓛 𝓜.mem 𝓡.returns in let fn = code.function in
    let hs : Stays f.ended.signature.params f.ended.kept = (stay_dropped FromHandle yes, tt) in
    proved_at 𝓛 f.ended hs c 𝓜 𝓡 (Goes-dropped 𝓛 0 FromHandle yes (λ κs x w. refl), tt) f.Key.name fn (code.unfolded 𝓤 H 𝓜 𝓡 wired) (λ z are.
    let Post = (walk_of 𝓛 f.ended hs c).post z in let Run : List Val → SProp 𝓤 = λ vs. WpFn 𝓤 H 𝓣.C 𝓣.Λ fn vs Post in
    let source = z.0.3.0 in let Out = type_at f.signature.result tt in let To = parts.the_row E.row Heap.the_row ghosts in
    qed 𝓛 ((‵ ftrue ⊛ ‵ (fsep (handles.the_row.own_val source z.0.4.0) ftrue)) ∷ ‵ ftrue ∷ []) ∵ split ! $ drop ! $ fsplit ! $ fsplit ! $
    fpick ! (λ vss. fsplit ! $ feq_l ! (λ is_handle. fsplit ! $ feq_l ! (λ is_ptr. fsplit ! $ handle_tells E.al ! source.alloc vss.1.0 (λ handle is_alloc fits.
    -- [the allocator; nothing; what is behind; nothing; nothing]
    let word : Ptr → Val = λ p. vstruct (of_list (ptr_val p ∷ handle ∷ [])) in
    let is_word : z.0.4.0 ≡ word source.ptr ∷ [] =
    subst (λ (ws : List Val). z.0.4.0 ≡ vstruct (of_list (ptr_val source.ptr ∷ (ws ++ []))) ∷ []) is_alloc
    (subst (λ (ps : List Val). z.0.4.0 ≡ vstruct (of_list (ps ++ (vss.1.0 ++ []))) ∷ []) is_ptr is_handle) in
    move ! (2 ∷ []) $ either_behind E.row source.alloc ! source.ptr source.held
    (λ none null. let w = word null_ptr in
    let typed : T (has_ty (layout handles.the_row) w) × WT w = (and_tt (has_ty (α E.al) handle) fits.0, (record { fits = lit< tt }, (fits.1, tt))) in
    suffices ! (Run (w ∷ [])) (subst (λ (us : List Val). ent 𝓤 (Run (w ∷ [])) (Run (us ++ []))) (sym (is_word ∙ ap (λ (p : Ptr). word p ∷ []) null)) (id⊢ 𝓤 _)) $
    enter ! 𝓣.C 𝓣.Λ fn (w ∷ []) Post $ alloc_all ! (λ l. pass_all ! refl (typed, tt) $ let Ev = env fn.locals l in
    sets ! (of_opd ! (get_in ! (fld ! refl (stop !)) (sub ! 0 refl (whole !)))) refl (tt, record { fits = lit< tt }) $
    sets ! (of_opd ! (get_in ! (fld ! refl (stop !)) (sub ! 1 refl (whole !)))) refl fits $
    sets ! (bin ! (get ! refl) (lit ! tt) tt) refl (tt, tt) $ first ! $ branches ! (get ! refl)
    (λ _. sets_last ! (agg ! (and_then ! (lit ! tt) (no_more !))) refl (tt, (record { fits = lit< tt }, tt)) $
    exec ! 𝓣.C 𝓣.Λ Ev (after 4 fn.body) (at_ret Ev Post) $ sets ! (of_opd ! (get ! refl)) refl (tt, (record { fits = lit< tt }, tt)) $
    returns ! (look_at ! 0 refl) $ free_all ! refl $ use0 𝓛 (‵ (Out.own_val None (live 0 vnil ∷ []))) (none_of 𝓛 To) $ keep ! (0 ∷ []) $
    suffices ! _ (ends_at 𝓛 f.ended hs c z (live 0 vnil) None (tt, tt) (tt, tt)) $ says ! (sym none) $
    nothing ! $ nothing ! $ fjoin ! $ join ! $ nothing ! $ join ! $ done !) (λ wrong. absurd wrong)))
    (λ b o x some is may. let w = word (block_ptr b o) in let typed = box_typed E handle b o fits in
    let made : To.Denot = record { ptr = block_ptr b o; alloc = source.alloc; value = x } in let there : Val = live 1 (vcons w vnil) in
    let good : T (has_ty (layout Out) there) × WT there = (and_tt _ typed.0, (record { fits = lit< tt }, (typed.1, tt))) in
    suffices ! (Run (w ∷ [])) (subst (λ (us : List Val). ent 𝓤 (Run (w ∷ [])) (Run (us ++ []))) (sym (is_word ∙ ap (λ (p : Ptr). word p ∷ []) is)) (id⊢ 𝓤 _)) $
    enter ! 𝓣.C 𝓣.Λ fn (w ∷ []) Post $ alloc_all ! (λ l. pass_all ! refl (typed, tt) $ let Ev = env fn.locals l in
    sets ! (of_opd ! (get_in ! (fld ! refl (stop !)) (sub ! 0 refl (whole !)))) refl (tt, tt) $
    sets ! (of_opd ! (get_in ! (fld ! refl (stop !)) (sub ! 1 refl (whole !)))) refl fits $
    sets ! (bin ! (get ! refl) (lit ! tt) (tests_null (block_ptr b o) may)) refl (tt, tt) $ first ! $ branches ! (get ! refl) (λ wrong. absurd wrong)
    (λ _. sets ! (of_opd ! (get ! refl)) refl (tt, tt) $
    sets ! (agg ! (and_then ! (get ! refl) (and_then ! (get ! refl) (no_more !)))) refl typed $
    sets_last ! (agg ! (and_then ! (lit ! tt) (and_then ! (get ! refl) (no_more !)))) refl good $
    exec ! 𝓣.C 𝓣.Λ Ev (after 4 fn.body) (at_ret Ev Post) $ sets ! (of_opd ! (get ! refl)) refl good $
    returns ! (look_at ! 0 refl) $ free_all ! refl $
    nothing ! $ move ! (2 ∷ 0 ∷ []) $ fjoin ! $ feq_i ! (List Val) (vptr b o ∷ []) (vptr b o ∷ []) refl $ fjoin ! $ feq_i ! (List Val) (w ∷ []) (w ∷ []) refl $ fjoin ! $
    fpack ! (Valss (RawPtr ∷ Heap.the_row ∷ [])) (within (shape (parts.the_type E.row Heap.the_row ghosts)) (block_ptr b o, (source.alloc, tt)) (w ∷ [])) (vptr b o ∷ [], (handle ∷ [], tt)) $ fjoin ! $
    use1 𝓛 (‵ (Out.own_val (Some made) (there ∷ []))) (Some-of 𝓛 To made w) $ keep ! (0 ∷ []) $
    suffices ! _ (ends_at 𝓛 f.ended hs c z there (Some made) (tt, tt) (tt, tt)) $ says ! (sym some) $
    nothing ! $ nothing ! $ fjoin ! $ join ! $ nothing ! $ join ! $ done !))))))))
