-- At null there is nothing. Else what is there is lent to the call for the lifetime for which the view has it, with the view's share of its token.
use Rattle.std.proofs.Common.{ℕ, ◌^◌, List, [], ◌∷◌, ◌++◌, refl, sym, ap, subst, ◌∙◌, Option}
use base.Fraction.{full_share}
use base.Logic.{SProp, id⊢}
use base.Fml.{Fml, Lft, ftrue, fsep, flft}
use mir.Syntax.{w64}
use mir.Val.{Val, vptr, vint, vbool, vstruct, vcons, vnil}
use prog.Wp.{WpFn, Wp, after_seq, at_return}
use contract.Monad.{fact}
use contract.Running.{tables}
use types.Kit.{‵, raw, prop, ◌⊛◌, some, later, ◌$◌, ◌∵◌, !, qed, at_ret, any_q, move, keep, drop, use0, use1, use2, join, split, group, pick, await, regoal, rewrite, fsplit, fsplit3, fjoin, fpack, feq_i, flt_i, suffices, frame, done}
use types.Part.{whole, sub, agg, look_in}
use types.Run.{stop, fld, lit, load, addr, no_more, and_then, of_opd, bin, first, blocks, branches, exec, returns, enter}
use types.ByLocal.{alloc_all, pass_all, free_all, look_at, get, through, sets, sets_last, lands_last, env}
use denote.Builtin.{u64, usize, bool, RawPtr}
use denote.Exit.{yes}
use denote.Laws.{shows}
use denote.Memory.{cell_at}
use denote.Opens.{hide}
use denote.Param.Laws.{of_field}
use denote.Param.Shared.{copy_shared}
use denote.Plain.{uint_Makes}
use denote.RattleType.{RattleType, Valss, owns}
use denote.RawPtr.{Ptr, block_ptr, null_ptr, ptr_val, count_of, tests_null, Testable}
use denote.Ref.{NamedLft, Bor}
use denote.Signature.{Slot, types_at, plain, named_lft}
use denote.Shadow.{makes_shadow}
use denote.Steps.{nothing, owned, heard, opens, closes, peeks, only}
use denote.Struct.Declared.{shape as tuple_shape}
use denote.Struct.Field.{usize-field}
use denote.Struct.Laws.{usize-laws, usize-copy}
use denote.Struct.Lending.{lent_at, lent_at_shr_laws}
use denote.Struct.Struct.{Struct, within}
use denote.Struct.Owning.{shape, to}
use denote.Struct.Tuple.{Tuple, tuple_type, tuple_laws}
use denote.Triple.Call.{calls_at_last}
use denote.Triple.Clauses.{lasts, Lasts}
use denote.Triple.Spec.{triple_of}
use denote.Triple.Table.{framed}
use denote.Triple.Walked.{says, Stays, stay_dropped, stay_ref, walk_of, ends_at, Goes-dropped, Goes-ref}
use lib.Dec.{lit<}
use Rattle.std.specs.Ordering.{nat_cmp}
use Rattle.core.proofs.alloc.Shapes.{after, head}
use Rattle.std.proofs.raw_atomic.Walks.{proved_at}
use Rattle.art_c.proofs.held.Held.TheLaws as held
use Rattle.art_c.proofs.Behind.{either_seen}
use Rattle.art_c_maps.proofs.LoanSteps.{tells, Good, otherwise}
use Rattle.art_c.specs.Handles.{held_entries, held_row}
use Rattle.art_c.specs.Kinds.{found_in, numbers_of}
use Rattle.art_c.specs.Views.{seen_behind}
use Rattle.art_c_maps.specs.Entries.{entries_from}
use Rattle.art_c_maps.specs.Lent.{LendsRun}
use Rattle.art_c_maps.specs.contracts.loan.Loan as Loan
use Rattle.art_c_maps.specs.contracts.lent.NumberRun as Run
use Rattle.art_c_maps.proofs.lent.NumberRun.TheLaws as run
use Rattle.art_c.specs.contracts.held.Held.lend_run as g
use Rattle.art_c.proofs.held.Held.lend_run.Met.{met}
use Rattle.art_c.specs.contracts.view.View.{the_row as Self, the_type}
use Rattle.art_c.specs.contracts.view.View.lend_run as f
use Rattle.art_c.proofs.view.View.TheLaws.{lowers}
use Rattle.art_c.proofs.view.View.lend_run.Statement.{statement}
use Rattle.art_c.proofs.view.View.lend_run.Code as code

-- the fields of a view
abbrev Fields : Self.Denot → List Val → Fml
Fields me us = (Struct (shape the_type)).own_val (to the_type me) us

pub lend_run_spec : {M : Type 1} → statement M
lend_run_spec {M} 𝓤 𝓛 𝓜 𝓡 wired =
    let H = 𝓛.H in let 𝓣 = tables 𝓤 H 𝓜 𝓡 𝓡.env in let c = f.clauses 𝓛 𝓜.mem 𝓡.returns in let fn = code.function in
    let Me : Slot 1 = plain (λ _. Self) in let Word : Slot 1 = plain (λ _. u64) in let Flag : Slot 1 = plain (λ _. bool) in
    let hs : Stays f.ended.signature.params f.ended.kept = (stay_ref (0 ∷ []) tt Me, (stay_dropped Word yes, (stay_dropped Flag yes, tt))) in
    proved_at 𝓛 f.ended hs c 𝓜 𝓡 (Goes-ref 𝓛 1 0 tt Me, (Goes-dropped 𝓛 1 Word yes (λ κs x w. refl), (Goes-dropped 𝓛 1 Flag yes (λ κs x w. refl), tt))) f.Key.name fn (code.unfolded 𝓤 H 𝓜 𝓡 wired) (λ z are.
    let κ = z.0.0.0 in let q = z.0.1.0 in let me = z.0.3.0.now in let γ = z.0.3.0.ghost_name in let b = z.0.3.0.ref_ptr.0 in let o = z.0.3.0.ref_ptr.1 in
    let life = me.life in let from = z.0.3.1.0 in let inclusive = z.0.3.1.1.0 in let vss = z.0.4 in
    let Two : RattleType = Tuple (Run.the_row ∷ usize ∷ []) in let From : List (ℕ × ℕ) → List (ℕ × ℕ) = entries_from nat_cmp inclusive from in
    let Post = (walk_of 𝓛 f.ended hs c).post z in let Runs : List Val → SProp 𝓤 = λ vs. WpFn 𝓤 H 𝓣.C 𝓣.Λ fn vs Post in
    qed 𝓛 (((‵ (flft κ q) ⊛ ‵ ftrue) ⊛ ‵ (owns (types_at f.ended.signature.params z.0.0) z.0.3 z.0.4)) ∷ ‵ ftrue ∷ []) ∵
    regoal ! (λ (us : List Val). prop (Runs (us ++ (vss.1.0 ++ (vss.1.1.0 ++ []))))) are.0.0 refl $
    regoal ! (λ (us : List Val). prop (Runs ((vptr b o ∷ []) ++ (us ++ (vss.1.1.0 ++ []))))) are.1.0.0 refl $
    regoal ! (λ (us : List Val). prop (Runs ((vptr b o ∷ []) ++ ((vint w64 from ∷ []) ++ (us ++ []))))) are.1.1.0 refl $
    enter ! 𝓣.C 𝓣.Λ fn (vptr b o ∷ vint w64 from ∷ vbool inclusive ∷ []) Post $ alloc_all ! (λ l. pass_all ! refl ((tt, tt), ((tt, record { fits = are.1.0.1 }), ((tt, tt), tt))) $ let Ev = env fn.locals l in
    split ! $ split ! $ move ! (2 ∷ []) $ fsplit ! $ fsplit3 ! $
    -- [where the view is; what is seen of its name, and its borrow; the other arguments; the token; nothing, twice]
    move ! (1 ∷ 2 ∷ 4 ∷ []) $ opens ! tt Self {h = me} b o (λ us. move ! (1 ∷ []) $ peeks ! Self _ (shows 𝓛 Self) me us (λ is. fsplit ! $ move ! (1 ∷ []) $
    -- [what it sees; the fields; the view's cell; the open borrow, in three; where the view is; the other arguments; nothing, twice]
    let Cell : List Val → Fml = λ vs. cell_at full_share Self.mir vs b o in
    either_seen held_row life me.share ! me.ptr me.seen
    (λ none null. let word = lowers.val_is me us is ∙ ap (λ (p : Ptr). lowers.lowered (record me { ptr = p }) ∷ []) null in
    let w : Val = vstruct (vcons (vint w64 0) vnil) in let u : Val = vstruct (vcons w (vcons (vint w64 0) vnil)) in let made : Run.the_row.Denot = record { ptr = null_ptr; entries = []; life = life } in
    let typed : Good Two u = (tt, ((record { fits = lit< tt }, tt), (record { fits = lit< tt }, tt))) in
    rewrite ! 2 (λ (vs : List Val). ‵ (Cell vs)) word refl $
    sets ! (of_opd ! (load ! (through ! refl (fld ! refl (stop !))) (look_in ! 2 (sub ! 0 refl (whole !))))) refl (tt, record { fits = lit< tt }) $
    sets ! (of_opd ! (get ! refl)) refl (tt, record { fits = lit< tt }) $
    sets ! (bin ! (get ! refl) (lit ! tt) tt) refl (tt, tt) $ first ! $ branches ! (get ! refl)
    (λ _. sets ! (agg ! (and_then ! (lit ! tt) (no_more !))) refl (tt, (record { fits = lit< tt }, tt)) $
    sets_last ! (agg ! (and_then ! (get ! refl) (and_then ! (lit ! tt) (no_more !)))) refl typed $
    exec ! 𝓣.C 𝓣.Λ Ev (after 4 fn.body) (at_ret Ev Post) $ sets ! (of_opd ! (get ! refl)) refl typed $
    rewrite ! 2 (λ (vs : List Val). ‵ (Cell vs)) (sym word) refl $
    feq_i ! Ptr me.ptr null_ptr null $ rewrite ! 0 (λ (seen : Option held_row.Denot). ‵ (seen_behind held_row life me.ptr seen)) (sym none) refl $
    move ! (1 ∷ 0 ∷ []) $ fjoin ! $ move ! (1 ∷ 0 ∷ []) $ fjoin ! $ move ! (1 ∷ 0 ∷ []) $ closes ! tt Self me us b o $
    nothing ! $ nothing ! $ feq_i ! (List Val) (vint w64 0 ∷ []) (ptr_val null_ptr ∷ []) refl $ fjoin ! $ feq_i ! (List Val) (w ∷ []) (w ∷ []) refl $ fjoin ! $
    fpack ! (Valss (RawPtr ∷ [])) (within (shape Run.the_type) (null_ptr, tt) (w ∷ [])) (vint w64 0 ∷ [], tt) $ fjoin ! $
    use1 𝓛 (‵ (Run.the_row.own_val made (w ∷ []))) (id⊢ 𝓤 _) $
    nothing ! $ owned ! usize _ (uint_Makes 𝓛 w64) 0 _ (refl, lit< tt) $ fjoin ! $ move ! (1 ∷ 0 ∷ []) $ fjoin ! $ feq_i ! (List Val) (u ∷ []) (u ∷ []) refl $ fjoin ! $
    fpack ! (Valss (Run.the_row ∷ usize ∷ [])) (within (tuple_shape (tuple_type (Run.the_row ∷ usize ∷ []))) (made, (0, tt)) (u ∷ [])) (w ∷ [], (vint w64 0 ∷ [], tt)) $
    use1 𝓛 (‵ (Two.own_val (made, 0) (u ∷ []))) (id⊢ 𝓤 _) $
    returns ! (look_at ! 0 refl) $ free_all ! refl $ keep ! (4 ∷ 1 ∷ 2 ∷ 3 ∷ 0 ∷ []) $
    suffices ! _ (ends_at 𝓛 f.ended hs c z u (made, 0) (me, (tt, (tt, tt))) (tt, (tt, (tt, tt)))) $
    says ! (record { counts = refl; first = refl; some = λ _. ap (λ seen. From (held_entries (found_in numbers_of seen))) none; lent = refl }, refl) $
    group ! 3 $ nothing ! $ nothing ! $ fjoin ! $ nothing ! $ fjoin ! $ move ! (1 ∷ 0 ∷ []) $ join ! $ nothing ! $ move ! (2 ∷ 0 ∷ []) $ join ! $ frame ! $ frame ! $ done !)
    (λ wrong. absurd wrong))
    (λ bb bo x there at may. let word = lowers.val_is me us is ∙ ap (λ (p : Ptr). lowers.lowered (record me { ptr = p }) ∷ []) at in
    let Then = any_q (after_seq 𝓤 H (Wp 𝓤 H 𝓣.C 𝓣.Λ Ev (after 4 fn.body) (at_return 𝓤 H Ev Post)) (at_return 𝓤 H Ev Post)) in
    let at_life : NamedLft = named_lft 1 0 tt (life, tt) in let loaned : (Loan.the_row at_life).Denot = record { marker = record {}; life = life } in let lv : Val = vstruct (vcons (vstruct vnil) vnil) in
    let Marked : Fml = (Struct (shape (Loan.the_type at_life))).own_val (tt, tt) (lv ∷ []) in let there_at : Bor held_row.Denot = record { ref_ptr = (bb, bo); now = x } in
    let G = triple_of 𝓛 g.signature (g.spec 𝓛 𝓜.mem 𝓡.returns) in
    let y : G.Ghost = (((life, tt), (me.share, tt), tt, (there_at, (loaned, (from, (inclusive, tt)))), (vptr bb bo ∷ [], (lv ∷ [], (vint w64 from ∷ [], (vbool inclusive ∷ [], tt))))), tt) in
    let LentAt : Lft → Fml = lent_at held_row (block_ptr bb bo) x in let laws = lent_at_shr_laws held_row held.the_row_laws.shr_laws (block_ptr bb bo) x in
    use1 𝓛 (‵ (LentAt life) ⊛ ‵ (LentAt life)) (laws.contraction M 𝓤 𝓛 life) $ split ! $ rewrite ! 4 (λ (vs : List Val). ‵ (Cell vs)) word refl $
    -- [the `&`; again; the token; the fields; the view's cell; the open borrow, in three; where the view is; the other arguments; nothing, twice]
    sets ! (of_opd ! (load ! (through ! refl (fld ! refl (stop !))) (look_in ! 4 (sub ! 0 refl (whole !))))) refl (tt, tt) $
    sets ! (of_opd ! (get ! refl)) refl (tt, tt) $
    sets ! (bin ! (get ! refl) (lit ! tt) (tests_null (block_ptr bb bo) (subst Testable at may))) refl (tt, tt) $ first ! $ branches ! (get ! refl) (λ wrong. absurd wrong)
    (λ _. first ! $ blocks ! $ sets ! (of_opd ! (get ! refl)) refl (tt, tt) $ sets ! (of_opd ! (get ! refl)) refl (tt, tt) $ sets_last ! (addr ! (through ! refl (stop !))) refl (tt, tt) $
    exec ! 𝓣.C 𝓣.Λ Ev (after 1 (otherwise (head (after 3 fn.body)))) Then $
    sets ! (of_opd ! (get ! refl)) refl (tt, tt) $ sets ! (agg ! (no_more !)) refl (tt, tt) $ sets ! (agg ! (and_then ! (get ! refl) (no_more !))) refl (tt, (tt, tt)) $
    sets ! (of_opd ! (get ! refl)) refl (tt, record { fits = are.1.0.1 }) $ sets ! (of_opd ! (get ! refl)) refl (tt, tt) $
    fsplit ! $ drop ! $ hide ! $ feq_i ! (List Val) (vptr bb bo ∷ []) (vptr bb bo ∷ []) refl $ fjoin ! $
    feq_i ! Lft life life refl $ use0 𝓛 (‵ Marked) (makes_shadow 𝓛 Marked (λ uss. (tt, ((λ tss. (tt, tt)), tt))) ((vstruct vnil ∷ [], tt), (refl, ((tt, (refl, tt)), tt)))) $ fjoin ! $
    -- [the loan; the `&`; again; the token; the fields; the view's cell; the open borrow, in three; where the view is; the other arguments; nothing, twice]
    rewrite ! 10 (λ (vs : List Val). ‵ (fsep (u64.own_val from vs) (fsep (bool.own_val inclusive vss.1.1.0) ftrue))) are.1.0.0 refl $
    rewrite ! 10 (λ (vs : List Val). ‵ (fsep (u64.own_val from (vint w64 from ∷ [])) (fsep (bool.own_val inclusive vs) ftrue))) are.1.1.0 refl $
    move ! (0 ∷ 10 ∷ []) $ fjoin ! $ move ! (1 ∷ 0 ∷ []) $ fjoin ! $ nothing ! $ move ! (3 ∷ 0 ∷ []) $ join ! $ join ! $ nothing ! $ move ! (1 ∷ 0 ∷ []) $ use2 𝓛 (raw (G.pre y)) (id⊢ 𝓤 _) $
    calls_at_last ! (framed 𝓤 H 𝓜 𝓣) G (met 𝓤 𝓛 𝓜 𝓡 (code.calls-art_c::held::Held::lend_run 𝓡.env wired)) y (and_then ! (get ! refl) (and_then ! (get ! refl) (and_then ! (get ! refl) (and_then ! (get ! refl) (no_more !))))) (λ v.
    use1 𝓛 (later (some (λ (r : Two.Denot). ((‵ (flft life me.share) ⊛ ‵ ftrue) ⊛ ‵ (Two.own_val r (v ∷ []))) ⊛ some (λ (ws : Lasts g.ended y.0.0 y.0.3). ‵ (lasts g.ended y.0.0 y.0.3 ws) ⊛ raw (fact 𝓤 (LendsRun life (From (held_entries (numbers_of x))) r.0 r.1)))))) (id⊢ 𝓤 (G.post y v)) $
    await ! tt $ pick ! (λ r. split ! $ move ! (1 ∷ []) $ pick ! (λ ws. split ! $ drop ! $ heard ! _ (λ said. split ! $ move ! (1 ∷ []) $
    -- [the run and its count; the token, and nothing; the `&`; the fields; the view's cell; the open borrow, in three; where the view is; nothing, twice]
    tells ! Two (tuple_laws (Run.the_row ∷ usize ∷ []) (run.the_row_laws, (of_field usize-field usize-laws refl (copy_shared usize-field usize-copy), tt))) r (v ∷ []) (λ w is_w good.
    let typed : Good Two v = subst (Good Two) (sym (ap only is_w)) good in
    rewrite ! 0 (λ (vs : List Val). ‵ (Two.own_val r vs)) (sym is_w) refl $
    lands_last ! refl typed $ exec ! 𝓣.C 𝓣.Λ Ev (after 4 fn.body) (at_ret Ev Post) $ sets ! (of_opd ! (get ! refl)) refl typed $
    rewrite ! 4 (λ (vs : List Val). ‵ (Cell vs)) (sym word) refl $
    move ! (1 ∷ []) $ split ! $ move ! (3 ∷ []) $ rewrite ! 0 (λ (p : Ptr). ‵ (lent_at held_row p x life)) (sym at) refl $ flt_i ! (count_of me.ptr) (2 ^ 63) may $ fjoin ! $
    rewrite ! 0 (λ (seen : Option held_row.Denot). ‵ (seen_behind held_row life me.ptr seen)) (sym there) refl $
    -- [what it sees, but for the token; the token; nothing; the run and its count; the fields; the view's cell; the open borrow, in three; where the view is; nothing, twice]
    move ! (1 ∷ 0 ∷ []) $ fjoin ! $ move ! (3 ∷ 0 ∷ []) $ fjoin ! $ move ! (3 ∷ 0 ∷ 4 ∷ 5 ∷ 6 ∷ []) $ closes ! tt Self me us b o $
    -- [what is seen of the view's name, and its borrow; the token; nothing; the run and its count; where the view is; nothing, twice]
    returns ! (look_at ! 0 refl) $ free_all ! refl $ keep ! (5 ∷ 0 ∷ 1 ∷ 2 ∷ 4 ∷ []) $
    suffices ! _ (ends_at 𝓛 f.ended hs c z v r (me, (tt, (tt, tt))) (tt, (tt, (tt, tt)))) $ says ! (subst (λ (seen : Option held_row.Denot). LendsRun life (From (held_entries (found_in numbers_of seen))) r.0 r.1) (sym there) said, refl) $
    group ! 3 $ nothing ! $ nothing ! $ fjoin ! $ nothing ! $ fjoin ! $ move ! (1 ∷ 0 ∷ []) $ join ! $ nothing ! $ move ! (2 ∷ 0 ∷ []) $ join ! $ frame ! $ frame ! $ done !)))))))))))
