-- At null there is nothing. Else what is there is lent to the call for the lifetime for which the view has it, with the view's share of its token. The places for entries are handed on to the call.
use Rattle.std.proofs.Common.{◌≡◌, ℕ, zero, suc, ◌^◌, List, [], ◌∷◌, ◌++◌, length, take, refl, sym, ap, subst, ◌∙◌, Option, Some}
use base.Fraction.{full_share}
use base.Logic.{SProp, id⊢}
use base.Fml.{Fml, Lft, ftrue, fsep, flft, fres}
use mir.Syntax.{named, w64}
use mir.Val.{Val, vptr, vint, vbool, vstruct, vcons, vnil}
use prog.Wp.{WpFn, Wp, after_seq, at_return}
use contract.Lifetimes.{Lfts}
use contract.Monad.{fact}
use contract.Running.{tables}
use types.Kit.{‵, raw, prop, ◌⊛◌, Item, some, later, ◌$◌, ◌∵◌, !, qed, at_ret, any_q, move, keep, drop, use0, use1, use2, join, split, group, pick, await, regoal, rewrite, fsplit, fsplit3, fjoin, feq_i, feq_l, flt_i, flt_l, suffices, frame, done}
use types.Part.{whole, sub, agg, look_in}
use types.Run.{stop, fld, hop, from, lit, load, addr, no_more, and_then, of_opd, bin, first, blocks, branches, exec, returns, enter}
use types.ByLocal.{alloc_all, pass_all, free_all, look_at, look_in_at, get, get_in, through, sets, sets_last, lands_last, env}
use denote.Builtin.{u8, bool, usize, SliceRefOf}
use denote.Exit.{yes}
use denote.Laws.{shows}
use denote.Memory.{cell_at}
use denote.Opens.{hide}
use denote.Plain.{uint_Makes}
use denote.RattleType.{owns}
use denote.RawPtr.{Ptr, block_ptr, null_ptr, count_of, tests_null, Testable}
use denote.Ref.{NamedLft, Bor}
use denote.Shadow.{makes_shadow}
use denote.Signature.{Slot, types_at, plain, named_lft}
use denote.Slice.{slice_val, ShrSlice, MutSlice, coded_holeys, heres, finally, res-finally}
use denote.Steps.{nothing, owned, heard, opens, closes, peeks, only}
use denote.Struct.Lending.{lent_at, lent_at_shr_laws}
use denote.Struct.Struct.{Struct}
use denote.Struct.Owning.{shape, to}
use denote.Triple.Call.{calls_at_last}
use denote.Triple.Clauses.{lasts, Lasts}
use denote.Triple.Spec.{triple_of}
use denote.Triple.Table.{framed}
use denote.Triple.Walked.{says, Stays, stay_dropped, stay_ref, gave_slice, walk_of, ends_at, Goes-dropped, Goes-ref, Goes-gave_slice}
use lib.Dec.{lit<}
use Rattle.core.proofs.alloc.Shapes.{after, head}
use Rattle.std.proofs.raw_atomic.Walks.{proved_at}
use Rattle.art_c.proofs.held.Held.TheLaws as held
use Rattle.art_c.proofs.Behind.{either_seen}
use Rattle.art_c_maps.proofs.LoanSteps.{Good, otherwise}
use Rattle.art_c.specs.Handles.{held_entries, held_row}
use Rattle.art_c.specs.Kinds.{bytes_of, found_in}
use Rattle.art_c.specs.Views.{seen_behind}
use Rattle.art_bytes.specs.Text.{text_order}
use Rattle.art_c_maps.specs.Entries.{entries_with_prefix, next_entries}
use Rattle.art_c_maps.specs.Lent.{LendsNext}
use Rattle.art_c_maps.specs.contracts.loan.Loan as Loan
use Rattle.art_c_maps.specs.contracts.lent.BytesEntry as Entry
use Rattle.art_c.specs.contracts.held.Held.lend_next as g
use Rattle.art_c.proofs.held.Held.lend_next.Met.{met}
use Rattle.art_c.specs.contracts.view.View.{the_row as Self, the_type}
use Rattle.art_c.specs.contracts.view.View.lend_next as f
use Rattle.art_c.proofs.view.View.TheLaws.{lowers}
use Rattle.art_c.proofs.view.View.lend_next.Statement.{statement}
use Rattle.art_c.proofs.view.View.lend_next.Code as code

-- the fields of a view
abbrev Fields : Self.Denot → List Val → Fml
Fields me us = (Struct (shape the_type)).own_val (to the_type me) us

first-none : {X : Type 0} (n : ℕ) (items : List X) → items ≡ [] → take n items ≡ []
first-none zero items none = refl
first-none (suc n) [] none = refl
first-none (suc n) (x ∷ items) none = absurd (cc)

-- where there are no entries none is lent
none_lent : (life : Lft) (entries : List (List ℕ × ℕ)) (places : List Entry.the_row.Denot) → entries ≡ [] → LendsNext life entries places places 0
none_lent life entries places none = rw none (record { counts = refl; lent = tt; others = refl })

pub lend_next_spec : {M : Type 1} → statement M
lend_next_spec {M} 𝓤 𝓛 𝓜 𝓡 wired =
    let H = 𝓛.H in let 𝓣 = tables 𝓤 H 𝓜 𝓡 𝓡.env in let c = f.clauses 𝓛 𝓜.mem 𝓡.returns in let fn = code.function in
    let Me : Slot 4 = plain (λ _. Self) in let Bytes : Slot 4 = plain (λ _. u8) in let Places : Slot 4 = plain (λ _. Entry.the_row) in
    let Prefix : Slot 4 = SliceRefOf (1 ∷ []) tt Bytes (λ _. tt) in let From : Slot 4 = SliceRefOf (2 ∷ []) tt Bytes (λ _. tt) in let Flag : Slot 4 = plain (λ _. bool) in
    let hs : Stays f.ended.signature.params f.ended.kept = (stay_ref (0 ∷ []) tt Me, (stay_dropped Prefix yes, (stay_dropped From yes, (stay_dropped Flag yes, (gave_slice (3 ∷ []) tt Places, tt))))) in
    proved_at 𝓛 f.ended hs c 𝓜 𝓡 (Goes-ref 𝓛 4 0 tt Me, (Goes-dropped 𝓛 4 Prefix yes (λ κs x w. refl), (Goes-dropped 𝓛 4 From yes (λ κs x w. refl), (Goes-dropped 𝓛 4 Flag yes (λ κs x w. refl), (Goes-gave_slice 𝓛 4 3 tt Places, tt))))) f.Key.name fn (code.unfolded 𝓤 H 𝓜 𝓡 wired) (λ z are.
    let κ = z.0.0.0 in let κ₁ = z.0.0.1.0 in let κ₂ = z.0.0.1.1.0 in let κ₃ = z.0.0.1.1.1.0 in let q = z.0.1.0 in
    let me = z.0.3.0.now in let γ = z.0.3.0.ghost_name in let b = z.0.3.0.ref_ptr.0 in let o = z.0.3.0.ref_ptr.1 in
    let life = me.life in let prefix = z.0.3.1.0 in let from_key = z.0.3.1.1.0 in let inclusive = z.0.3.1.1.1.0 in let out = z.0.3.1.1.1.1.0 in let vss = z.0.4 in
    let v₁ : Val = slice_val prefix.ref_ptr (length prefix.now) in let v₂ : Val = slice_val from_key.ref_ptr (length from_key.now) in let v₃ : Val = slice_val out.ref_ptr (length out.now) in
    let T : Item 𝓤 = ‵ (flft κ₁ z.0.1.1.0) ⊛ ‵ (flft κ₂ z.0.1.1.1.0) ⊛ ‵ (flft κ₃ z.0.1.1.1.1.0) ⊛ ‵ ftrue in
    let Kept = (coded_holeys Entry.the_row).code (heres Entry.the_row out.now) in
    let Next : Option held_row.Denot → List (List ℕ × ℕ) = λ seen. next_entries text_order (length out.now) inclusive from_key.now (entries_with_prefix prefix.now (held_entries (found_in bytes_of seen))) in
    let Post = (walk_of 𝓛 f.ended hs c).post z in let Runs : List Val → SProp 𝓤 = λ vs. WpFn 𝓤 H 𝓣.C 𝓣.Λ fn vs Post in
    qed 𝓛 (((‵ (flft κ q) ⊛ T) ⊛ ‵ (owns (types_at f.ended.signature.params z.0.0) z.0.3 z.0.4)) ∷ ‵ ftrue ∷ []) ∵
    regoal ! (λ (us : List Val). prop (Runs (us ++ (vss.1.0 ++ (vss.1.1.0 ++ (vss.1.1.1.0 ++ (vss.1.1.1.1.0 ++ []))))))) are.0.0 refl $
    regoal ! (λ (us : List Val). prop (Runs ((vptr b o ∷ []) ++ (us ++ (vss.1.1.0 ++ (vss.1.1.1.0 ++ (vss.1.1.1.1.0 ++ []))))))) are.1.0.0.0 refl $
    regoal ! (λ (us : List Val). prop (Runs ((vptr b o ∷ []) ++ ((v₁ ∷ []) ++ (us ++ (vss.1.1.1.0 ++ (vss.1.1.1.1.0 ++ []))))))) are.1.1.0.0.0 refl $
    regoal ! (λ (us : List Val). prop (Runs ((vptr b o ∷ []) ++ ((v₁ ∷ []) ++ ((v₂ ∷ []) ++ (us ++ (vss.1.1.1.1.0 ++ []))))))) are.1.1.1.0 refl $
    regoal ! (λ (us : List Val). prop (Runs ((vptr b o ∷ []) ++ ((v₁ ∷ []) ++ ((v₂ ∷ []) ++ ((vbool inclusive ∷ []) ++ (us ++ []))))))) are.1.1.1.1.0.0.0 refl $
    enter ! 𝓣.C 𝓣.Λ fn (vptr b o ∷ v₁ ∷ v₂ ∷ vbool inclusive ∷ v₃ ∷ []) Post $
    let count₁ = are.1.0.0.1.0 in let count₂ = are.1.1.0.0.1.0 in let count₃ = are.1.1.1.1.0.0.1.0 in
    alloc_all ! (λ l. pass_all ! refl ((tt, tt), ((tt, (tt, (record { fits = count₁ }, tt))), ((tt, (tt, (record { fits = count₂ }, tt))), ((tt, tt), ((tt, (tt, (record { fits = count₃ }, tt))), tt))))) $ let Ev = env fn.locals l in
    split ! $ split ! $ move ! (2 ∷ []) $ fsplit ! $ fsplit3 ! $
    -- [where the view is; what is seen of its name, and its borrow; the other arguments; the token; the others; nothing]
    move ! (1 ∷ 2 ∷ 4 ∷ []) $ opens ! tt Self {h = me} b o (λ us. move ! (1 ∷ []) $ peeks ! Self _ (shows 𝓛 Self) me us (λ is. fsplit ! $ move ! (1 ∷ []) $
    -- [what it sees; the fields; the view's cell; the open borrow, in three; where the view is; the other arguments; the other tokens; nothing]
    let Cell : List Val → Fml = λ vs. cell_at full_share Self.mir vs b o in
    either_seen held_row life me.share ! me.ptr me.seen
    (λ none null. let word = lowers.val_is me us is ∙ ap (λ (p : Ptr). lowers.lowered (record me { ptr = p }) ∷ []) null in
    rewrite ! 2 (λ (vs : List Val). ‵ (Cell vs)) word refl $
    sets ! (of_opd ! (load ! (through ! refl (fld ! refl (stop !))) (look_in ! 2 (sub ! 0 refl (whole !))))) refl (tt, record { fits = lit< tt }) $
    sets ! (of_opd ! (get ! refl)) refl (tt, record { fits = lit< tt }) $
    sets ! (bin ! (get ! refl) (lit ! tt) tt) refl (tt, tt) $ first ! $ branches ! (get ! refl)
    (λ _. sets_last ! (of_opd ! (lit ! tt)) refl (tt, record { fits = lit< tt }) $
    exec ! 𝓣.C 𝓣.Λ Ev (after 4 fn.body) (at_ret Ev Post) $ sets ! (of_opd ! (get ! refl)) refl (tt, record { fits = lit< tt }) $
    rewrite ! 2 (λ (vs : List Val). ‵ (Cell vs)) (sym word) refl $
    feq_i ! Ptr me.ptr null_ptr null $ rewrite ! 0 (λ (seen : Option held_row.Denot). ‵ (seen_behind held_row life me.ptr seen)) (sym none) refl $
    move ! (1 ∷ 0 ∷ []) $ fjoin ! $ move ! (1 ∷ 0 ∷ []) $ fjoin ! $ move ! (1 ∷ 0 ∷ []) $ closes ! tt Self me us b o $
    -- [what is seen of the view's name, and its borrow; the token; where the view is; the other arguments; the other tokens; nothing]
    move ! (4 ∷ []) $ fsplit ! $ drop ! $ fsplit ! $ drop ! $ fsplit ! $ drop ! $ fsplit ! $ fsplit3 ! $ drop ! $
    use1 𝓛 (‵ (fres out.ghost_name Kept)) (𝓛.names.obs-res out.ghost_name Kept) $ use1 𝓛 (‵ (finally Entry.the_row out.ghost_name out.now)) (res-finally 𝓛 (named 3) κ₃ Entry.the_row out.ghost_name out.now) $
    -- [what the places end as, and their borrow; nothing; what is seen of the view's name, and its borrow; the token; where the view is; the other tokens; nothing]
    owned ! usize _ (uint_Makes 𝓛 w64) 0 _ (refl, lit< tt) $
    returns ! (look_at ! 0 refl) $ free_all ! refl $ keep ! (7 ∷ 4 ∷ 5 ∷ 6 ∷ 8 ∷ 0 ∷ 1 ∷ 2 ∷ []) $
    suffices ! _ (ends_at 𝓛 f.ended hs c z (vint w64 0) 0 (me, (tt, (tt, (tt, (out.now, tt))))) (tt, (tt, (tt, (tt, (refl, tt)))))) $ says ! (none_lent life (Next me.seen) out.now (ap Next none ∙ first-none (length out.now) [] refl), refl) $
    group ! 3 $ move ! (4 ∷ 5 ∷ []) $ fjoin ! $ nothing ! $ move ! (1 ∷ 0 ∷ []) $ fjoin ! $ nothing ! $ fjoin ! $ nothing ! $ fjoin ! $ nothing ! $ fjoin ! $
    move ! (1 ∷ 0 ∷ []) $ join ! $ move ! (1 ∷ 2 ∷ []) $ join ! $ frame ! $ frame ! $ done !)
    (λ wrong. absurd wrong))
    (λ bb bo x there at may. let word = lowers.val_is me us is ∙ ap (λ (p : Ptr). lowers.lowered (record me { ptr = p }) ∷ []) at in
    let Then = any_q (after_seq 𝓤 H (Wp 𝓤 H 𝓣.C 𝓣.Λ Ev (after 4 fn.body) (at_return 𝓤 H Ev Post)) (at_return 𝓤 H Ev Post)) in
    let κs : Lfts 4 = (life, (κ₁, (κ₂, (κ₃, tt)))) in
    let at_life : NamedLft = named_lft 4 0 tt κs in let loaned : (Loan.the_row at_life).Denot = record { marker = record {}; life = life } in let lv : Val = vstruct (vcons (vstruct vnil) vnil) in
    let Marked : Fml = (Struct (shape (Loan.the_type at_life))).own_val (tt, tt) (lv ∷ []) in let there_at : Bor held_row.Denot = record { ref_ptr = (bb, bo); now = x } in
    let G = triple_of 𝓛 g.signature (g.spec 𝓛 𝓜.mem 𝓡.returns) in
    let y : G.Ghost = ((κs, (me.share, z.0.1.1), tt, (there_at, (loaned, (prefix, (from_key, (inclusive, (out, tt)))))), (vptr bb bo ∷ [], (lv ∷ [], (v₁ ∷ [], (v₂ ∷ [], (vbool inclusive ∷ [], (v₃ ∷ [], tt))))))), tt) in
    let LentAt : Lft → Fml = lent_at held_row (block_ptr bb bo) x in let laws = lent_at_shr_laws held_row held.the_row_laws.shr_laws (block_ptr bb bo) x in
    use1 𝓛 (‵ (LentAt life) ⊛ ‵ (LentAt life)) (laws.contraction M 𝓤 𝓛 life) $ split ! $ rewrite ! 4 (λ (vs : List Val). ‵ (Cell vs)) word refl $
    -- [the `&`; again; the token; the fields; the view's cell; the open borrow, in three; where the view is; the other arguments; the other tokens; nothing]
    sets ! (of_opd ! (load ! (through ! refl (fld ! refl (stop !))) (look_in ! 4 (sub ! 0 refl (whole !))))) refl (tt, tt) $
    sets ! (of_opd ! (get ! refl)) refl (tt, tt) $
    sets ! (bin ! (get ! refl) (lit ! tt) (tests_null (block_ptr bb bo) (subst Testable at may))) refl (tt, tt) $ first ! $ branches ! (get ! refl) (λ wrong. absurd wrong)
    (λ _. first ! $ blocks ! $ sets ! (of_opd ! (get ! refl)) refl (tt, tt) $ sets ! (of_opd ! (get ! refl)) refl (tt, tt) $ sets_last ! (addr ! (through ! refl (stop !))) refl (tt, tt) $
    exec ! 𝓣.C 𝓣.Λ Ev (after 1 (otherwise (head (after 3 fn.body)))) Then $
    sets ! (of_opd ! (get ! refl)) refl (tt, tt) $ sets ! (agg ! (no_more !)) refl (tt, tt) $ sets ! (agg ! (and_then ! (get ! refl) (no_more !))) refl (tt, (tt, tt)) $
    sets ! (of_opd ! (get ! refl)) refl (tt, (tt, (record { fits = count₁ }, tt))) $ sets ! (of_opd ! (get ! refl)) refl (tt, (tt, (record { fits = count₂ }, tt))) $ sets ! (of_opd ! (get ! refl)) refl (tt, tt) $
    sets ! (addr ! (from ! (fld ! refl (hop ! (look_in_at ! 5 (sub ! 0 refl (whole !))) (stop !))))) refl (tt, tt) $
    sets ! (agg ! (and_then ! (get ! refl) (and_then ! (get_in ! (fld ! refl (stop !)) (sub ! 1 refl (whole !))) (no_more !)))) refl (tt, (tt, (record { fits = count₃ }, tt))) $
    fsplit ! $ drop ! $ hide ! $ feq_i ! (List Val) (vptr bb bo ∷ []) (vptr bb bo ∷ []) refl $ fjoin ! $
    feq_i ! Lft life life refl $ use0 𝓛 (‵ Marked) (makes_shadow 𝓛 Marked (λ uss. (tt, ((λ tss. (tt, tt)), tt))) ((vstruct vnil ∷ [], tt), (refl, ((tt, (refl, tt)), tt)))) $ fjoin ! $
    -- [the loan; the `&`; again; the token; the fields; the view's cell; the open borrow, in three; where the view is; the other arguments; the other tokens; nothing]
    let P₁ : List Val → Fml = (ShrSlice (named 1) κ₁ u8).own_val prefix in let P₂ : List Val → Fml = (ShrSlice (named 2) κ₂ u8).own_val from_key in
    let P₃ : List Val → Fml = bool.own_val inclusive in let P₄ : List Val → Fml = (MutSlice (named 3) κ₃ Entry.the_row).own_val out in
    rewrite ! 10 (λ (vs : List Val). ‵ (fsep (P₁ vs) (fsep (P₂ vss.1.1.0) (fsep (P₃ vss.1.1.1.0) (fsep (P₄ vss.1.1.1.1.0) ftrue))))) are.1.0.0.0 refl $
    rewrite ! 10 (λ (vs : List Val). ‵ (fsep (P₁ (v₁ ∷ [])) (fsep (P₂ vs) (fsep (P₃ vss.1.1.1.0) (fsep (P₄ vss.1.1.1.1.0) ftrue))))) are.1.1.0.0.0 refl $
    rewrite ! 10 (λ (vs : List Val). ‵ (fsep (P₁ (v₁ ∷ [])) (fsep (P₂ (v₂ ∷ [])) (fsep (P₃ vs) (fsep (P₄ vss.1.1.1.1.0) ftrue))))) are.1.1.1.0 refl $
    rewrite ! 10 (λ (vs : List Val). ‵ (fsep (P₁ (v₁ ∷ [])) (fsep (P₂ (v₂ ∷ [])) (fsep (P₃ (vbool inclusive ∷ [])) (fsep (P₄ vs) ftrue))))) are.1.1.1.1.0.0.0 refl $
    move ! (0 ∷ 10 ∷ []) $ fjoin ! $ move ! (1 ∷ 0 ∷ []) $ fjoin ! $ move ! (2 ∷ 9 ∷ 0 ∷ []) $ join ! $ join ! $ nothing ! $ move ! (1 ∷ 0 ∷ []) $ use2 𝓛 (raw (G.pre y)) (id⊢ 𝓤 _) $
    calls_at_last ! (framed 𝓤 H 𝓜 𝓣) G (met 𝓤 𝓛 𝓜 𝓡 (code.calls-art_c::held::Held::lend_next 𝓡.env wired)) y
    (and_then ! (get ! refl) (and_then ! (get ! refl) (and_then ! (get ! refl) (and_then ! (get ! refl) (and_then ! (get ! refl) (and_then ! (get ! refl) (no_more !))))))) (λ v.
    use1 𝓛 (later (some (λ (r : usize.Denot). ((‵ (flft life me.share) ⊛ T) ⊛ ‵ (usize.own_val r (v ∷ []))) ⊛ some (λ (ws : Lasts g.ended y.0.0 y.0.3). ‵ (lasts g.ended y.0.0 y.0.3 ws) ⊛ raw (fact 𝓤 (LendsNext life (Next (Some x)) out.now ws.1.1.1.1.1.0 r)))))) (id⊢ 𝓤 (G.post y v)) $
    await ! tt $ pick ! (λ r. split ! $ move ! (1 ∷ []) $ pick ! (λ ws. split ! $ move ! (1 ∷ []) $ heard ! _ (λ said.
    fsplit ! $ drop ! $ fsplit ! $ drop ! $ fsplit ! $ drop ! $ fsplit ! $ drop ! $ fsplit ! $ drop ! $ fsplit ! $ fsplit ! $ fsplit ! $ move ! (1 ∷ []) $ feq_l ! (λ as_many.
    -- [what the places end as, and their borrow; nothing; the tokens, and the count; the `&`; the fields; the view's cell; the open borrow, in three; where the view is; nothing]
    move ! (3 ∷ []) $ split ! $ move ! (1 ∷ []) $ fsplit ! $ feq_l ! (λ is_r. flt_l ! (λ fits.
    let typed : Good usize v = subst (Good usize) (sym (ap only is_r)) (tt, record { fits = fits }) in
    flt_i ! r (2 ^ 64) fits $ feq_i ! (List Val) (v ∷ []) (vint w64 r ∷ []) is_r $ fjoin ! $
    -- [the count; the tokens; what the places end as, and their borrow; nothing; the `&`; the fields; the view's cell; the open borrow, in three; where the view is; nothing]
    lands_last ! refl typed $ exec ! 𝓣.C 𝓣.Λ Ev (after 4 fn.body) (at_ret Ev Post) $ sets ! (of_opd ! (get ! refl)) refl typed $
    rewrite ! 7 (λ (vs : List Val). ‵ (Cell vs)) (sym word) refl $
    move ! (1 ∷ []) $ split ! $ move ! (6 ∷ []) $ rewrite ! 0 (λ (p : Ptr). ‵ (lent_at held_row p x life)) (sym at) refl $ flt_i ! (count_of me.ptr) (2 ^ 63) may $ fjoin ! $
    rewrite ! 0 (λ (seen : Option held_row.Denot). ‵ (seen_behind held_row life me.ptr seen)) (sym there) refl $
    -- [what it sees, but for the token; the token; the other tokens; the count; what the places end as, and their borrow; nothing; the fields; the view's cell; the open borrow, in three; where the view is; nothing]
    move ! (1 ∷ 0 ∷ []) $ fjoin ! $ move ! (6 ∷ 0 ∷ []) $ fjoin ! $ move ! (6 ∷ 0 ∷ 7 ∷ 8 ∷ 9 ∷ []) $ closes ! tt Self me us b o $
    -- [what is seen of the view's name, and its borrow; the token; the other tokens; the count; what the places end as, and their borrow; nothing; where the view is; nothing]
    returns ! (look_at ! 0 refl) $ free_all ! refl $ keep ! (8 ∷ 0 ∷ 1 ∷ 2 ∷ 3 ∷ 4 ∷ 5 ∷ 6 ∷ []) $
    suffices ! _ (ends_at 𝓛 f.ended hs c z v r (me, (tt, (tt, (tt, (ws.1.1.1.1.1.0, tt))))) (tt, (tt, (tt, (tt, (as_many, tt)))))) $ says ! (subst (λ (seen : Option held_row.Denot). LendsNext life (Next seen) out.now ws.1.1.1.1.1.0 r) (sym there) said, refl) $
    group ! 3 $ move ! (4 ∷ 5 ∷ []) $ fjoin ! $ nothing ! $ move ! (1 ∷ 0 ∷ []) $ fjoin ! $ nothing ! $ fjoin ! $ nothing ! $ fjoin ! $ nothing ! $ fjoin ! $
    move ! (1 ∷ 0 ∷ []) $ join ! $ move ! (1 ∷ 2 ∷ []) $ join ! $ frame ! $ frame ! $ done !)))))))))))))
