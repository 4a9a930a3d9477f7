-- The address of the slice: what its `&` holds is what the run owns.
use Rattle.std.proofs.Common.{List, [], ◌∷◌, ◌++◌, length, refl, sym}
use base.Logic.{id⊢}
use base.Fml.{Lft, ftrue}
use mir.Val.{Val, vptr, vstruct, vcons, vnil}
use prog.Wp.{WpFn}
use contract.Running.{tables}
use types.Kit.{‵, raw, prop, ◌⊛◌, ◌$◌, ◌∵◌, !, qed, move, drop, use1, split, fsplit, fjoin, feq_l, flt_l, feq_i, fpack, regoal, rewrite, suffices, done}
use types.Part.{agg, sub, whole}
use types.Run.{enter, returns, and_then, no_more, fld, stop, addr, from, hop}
use types.ByLocal.{alloc_all, pass_all, free_all, look_at, get, sets, look_in_at}
use denote.Exit.{yes, no}
use denote.Builtin.{SliceRefOf, RawPtr}
use denote.Opens.{unhide}
use denote.RattleType.{Valss, owns}
use denote.RawPtr.{block_ptr}
use denote.Ref.{NamedLft}
use denote.Signature.{Slot, plain, types_at, named_lft}
use denote.Slice.{slice_val, elements_shared}
use denote.Steps.{nothing}
use denote.Struct.Struct.{within}
use denote.Struct.Owning.{shape}
use denote.Triple.Walked.{says, Stays, stay_dropped, walk_of, ends_at, Goes-dropped}
use Rattle.std.proofs.raw_atomic.Walks.{proved_at}
use Rattle.art_c_maps.proofs.LoanSteps.{tells}
use Rattle.art_c_maps.specs.Loans.{entry_row}
use Rattle.art_c_maps.specs.contracts.loan.Loan as Loan
use Rattle.art_c_maps.proofs.loan.Loan.TheLaws as loan
use Rattle.art_c_maps.specs.contracts.lent.NumberRun as Run
use Rattle.art_c_maps.specs.contracts.lent.NumberRun.of as f
use Rattle.art_c_maps.proofs.lent.NumberRun.of.Statement.{statement}
use Rattle.art_c_maps.proofs.lent.NumberRun.of.Code as code

pub of_spec : {M : Type 1} → statement M
of_spec 𝓤 𝓛 𝓜 𝓡 wired =
    let H = 𝓛.H in let 𝓣 = tables 𝓤 H 𝓜 𝓡 𝓡.env in let c = f.clauses 𝓛 𝓜.mem 𝓡.returns in let fn = code.function in
    let Slice : Slot 1 = SliceRefOf (0 ∷ []) tt (plain (λ _. entry_row)) (λ _. tt) in
    let Lent : Slot 1 = plain (λ κs. Loan.the_row (named_lft 1 0 tt κs)) in
    let hs : Stays f.ended.signature.params f.ended.kept = (stay_dropped Slice yes, (stay_dropped Lent no, tt)) in
    proved_at 𝓛 f.ended hs c 𝓜 𝓡 (Goes-dropped 𝓛 1 Slice yes (λ κs x w. refl), (Goes-dropped 𝓛 1 Lent no (λ κs x w. refl), tt)) f.Key.name fn (code.unfolded 𝓤 H 𝓜 𝓡 wired) (λ z are.
    let Post = (walk_of 𝓛 f.ended hs c).post z in
    let a = z.0.3 in let vss = z.0.4 in
    let xs = a.0.now in let b = a.0.ref_ptr.0 in let o = a.0.ref_ptr.1 in let given = a.1.0 in let named : NamedLft = named_lft 1 0 tt z.0.0 in
    qed 𝓛 ((raw (denote.Triple.Entry.alive 𝓛 f.ended.signature z.0.0 z.0.1) ⊛ ‵ (owns (types_at f.ended.signature.params z.0.0) a vss)) ∷ ‵ ftrue ∷ []) ∵
    split ! $ move ! (1 ∷ []) $ fsplit ! $ fsplit ! $ fsplit ! $ feq_l ! (λ is₀. fsplit ! $ flt_l ! (λ count. flt_l ! (λ size. unhide ! $ move ! (1 ∷ []) $ fsplit ! $
    tells ! (Loan.the_row named) (loan.the_row_laws named) given vss.1.0 (λ v is₁ good. fsplit ! $ move ! (1 ∷ []) $ feq_l ! (λ life. drop ! $ drop ! $
    -- [the entries, lent; the token; nothing]
    let w = vstruct (vcons (vptr b o) vnil) in
    let made : Run.the_row.Denot = record { ptr = block_ptr b o; entries = xs; life = given.life } in
    regoal ! (λ (us : List Val). prop (WpFn 𝓤 H 𝓣.C 𝓣.Λ fn (us ++ (vss.1.0 ++ [])) Post)) is₀ refl $
    regoal ! (λ (us : List Val). prop (WpFn 𝓤 H 𝓣.C 𝓣.Λ fn ((slice_val (b, o) (length xs) ∷ []) ++ (us ++ [])) Post)) is₁ refl $
    enter ! 𝓣.C 𝓣.Λ fn (slice_val (b, o) (length xs) ∷ v ∷ []) Post $ alloc_all ! (λ l. pass_all ! refl ((tt, (tt, (record { fits = count }, tt))), (good, tt)) $
    sets ! (addr ! (from ! (fld ! refl (hop ! (look_in_at ! 1 (sub ! 0 refl (whole !))) (stop !))))) refl (tt, tt) $
    sets ! (agg ! (and_then ! (get ! refl) (no_more !))) refl (tt, (tt, tt)) $
    rewrite ! 0 (λ (k : Lft). ‵ (elements_shared entry_row xs b o k)) (sym life) refl $
    feq_i ! (List Val) (vptr b o ∷ []) (vptr b o ∷ []) refl $ nothing ! $ move ! (1 ∷ 0 ∷ []) $ fjoin ! $ feq_i ! (List Val) (w ∷ []) (w ∷ []) refl $ fjoin ! $
    fpack ! (Valss (RawPtr ∷ [])) (within (shape Run.the_type) (block_ptr b o, tt) (w ∷ [])) (vptr b o ∷ [], tt) $ fjoin ! $
    use1 𝓛 (‵ (Run.the_row.own_val made (w ∷ []))) (id⊢ 𝓤 _) $
    returns ! (look_at ! 0 refl) $ free_all ! refl $
    suffices ! _ (ends_at 𝓛 f.ended hs c z w made (tt, (tt, tt)) (tt, (tt, tt))) $ says ! (refl, refl) $
    nothing ! $ nothing ! $ fjoin ! $ nothing ! $ fjoin ! $ move ! (3 ∷ []) $ drop ! $ move ! (2 ∷ 0 ∷ 1 ∷ []) $ done !)))))))
