-- The address of the key: what its `&` holds is what the entry owns.
use Rattle.std.proofs.Common.{List, [], ◌∷◌, ◌++◌, length, refl, sym}
use base.Logic.{id⊢}
use base.Fml.{Fml, Lft, ftrue}
use mir.Syntax.{w64}
use mir.Val.{Val, vptr, vint, vstruct, vcons, vnil}
use prog.Wp.{WpFn}
use contract.Running.{tables}
use types.Kit.{‵, raw, prop, ◌⊛◌, ◌$◌, ◌∵◌, !, qed, move, drop, use0, use1, split, fsplit, fjoin, feq_l, flt_l, regoal, rewrite, suffices, done}
use types.Part.{agg, sub, whole}
use types.Run.{enter, returns, and_then, no_more, fld, stop, addr, from, hop, of_opd}
use types.ByLocal.{alloc_all, pass_all, free_all, look_at, get, get_in, sets, look_in_at}
use denote.Exit.{yes}
use denote.Builtin.{u8, u64, RefOf, SliceRefOf}
use denote.Opens.{unhide}
use denote.RattleType.{owns}
use denote.RawPtr.{block_ptr}
use denote.Shadow.{makes_shadow}
use denote.Signature.{Slot, plain, types_at, named_lft}
use denote.Slice.{slice_val, elements_shared}
use denote.Steps.{nothing}
use denote.Struct.Struct.{Struct}
use denote.Struct.Owning.{shape}
use denote.Triple.Entry.{alive}
use denote.Triple.Walked.{says, Stays, stay_dropped, walk_of, ends_at, Goes-dropped}
use Rattle.std.proofs.raw_atomic.Walks.{proved_at}
use Rattle.art_c_maps.specs.contracts.loan.Loan as Loan
use Rattle.art_c_maps.specs.contracts.lent.BytesEntry as Entry
use Rattle.art_c_maps.specs.contracts.lent.BytesEntry.of as f
use Rattle.art_c_maps.proofs.lent.BytesEntry.of.Statement.{statement}
use Rattle.art_c_maps.proofs.lent.BytesEntry.of.Code as code

pub of_spec : {M : Type 1} → statement M
of_spec 𝓤 𝓛 𝓜 𝓡 wired =
    let H = 𝓛.H in let 𝓣 = tables 𝓤 H 𝓜 𝓡 𝓡.env in let c = f.clauses 𝓛 𝓜.mem 𝓡.returns in let fn = code.function in
    let Key : Slot 2 = SliceRefOf (0 ∷ []) tt (plain (λ _. u8)) (λ _. tt) in let Word : Slot 2 = plain (λ _. u64) in
    let Lent : Slot 2 = RefOf (1 ∷ []) tt (plain (λ κs. Loan.the_row (named_lft 2 0 tt κs))) (λ _. tt) in
    let hs : Stays f.ended.signature.params f.ended.kept = (stay_dropped Key yes, (stay_dropped Word yes, (stay_dropped Lent yes, tt))) in
    proved_at 𝓛 f.ended hs c 𝓜 𝓡 (Goes-dropped 𝓛 2 Key yes (λ κs x w. refl), (Goes-dropped 𝓛 2 Word yes (λ κs x w. refl), (Goes-dropped 𝓛 2 Lent yes (λ κs x w. refl), tt))) f.Key.name fn (code.unfolded 𝓤 H 𝓜 𝓡 wired) (λ z are.
    let Post = (walk_of 𝓛 f.ended hs c).post z in
    let a = z.0.3 in let vss = z.0.4 in
    let xs = a.0.now in let b = a.0.ref_ptr.0 in let o = a.0.ref_ptr.1 in let value = a.1.0 in let given = a.1.1.0.now in
    let p = a.1.1.0.ref_ptr in
    qed 𝓛 ((raw (alive 𝓛 f.ended.signature z.0.0 z.0.1) ⊛ ‵ (owns (types_at f.ended.signature.params z.0.0) a vss)) ∷ ‵ ftrue ∷ []) ∵
    split ! $ move ! (1 ∷ []) $ fsplit ! $ fsplit ! $ fsplit ! $ feq_l ! (λ is₀. fsplit ! $ flt_l ! (λ count. flt_l ! (λ size. unhide ! $ move ! (1 ∷ []) $ fsplit ! $ drop ! $
    -- [the loan, and nothing; the key, lent; the token; nothing]
    fsplit ! $ fsplit ! $ drop ! $ unhide ! $ fsplit ! $ drop ! $ feq_l ! (λ life. drop ! $
    -- [the key, lent; the token; nothing]
    let w : Val = vstruct (vcons (vptr b o) (vcons (vint w64 (length xs)) (vcons (vint w64 value) vnil))) in
    let made : Entry.the_row.Denot = record { key = block_ptr b o; key_len = length xs; value = value; text = xs; life = given.life } in
    let Fields : Fml = (Struct (shape Entry.the_type)).own_val (block_ptr b o, (length xs, (value, tt))) (w ∷ []) in
    regoal ! (λ (us : List Val). prop (WpFn 𝓤 H 𝓣.C 𝓣.Λ fn (us ++ (vss.1.0 ++ (vss.1.1.0 ++ []))) Post)) is₀ refl $
    regoal ! (λ (us : List Val). prop (WpFn 𝓤 H 𝓣.C 𝓣.Λ fn ((slice_val (b, o) (length xs) ∷ []) ++ (us ++ (vss.1.1.0 ++ []))) Post)) are.1.0.0 refl $
    regoal ! (λ (us : List Val). prop (WpFn 𝓤 H 𝓣.C 𝓣.Λ fn ((slice_val (b, o) (length xs) ∷ []) ++ ((vint w64 value ∷ []) ++ (us ++ []))) Post)) are.1.1.0.0 refl $
    enter ! 𝓣.C 𝓣.Λ fn (slice_val (b, o) (length xs) ∷ vint w64 value ∷ vptr p.0 p.1 ∷ []) Post $
    alloc_all ! (λ l. pass_all ! refl ((tt, (tt, (record { fits = count }, tt))), ((tt, record { fits = are.1.0.1 }), ((tt, tt), tt))) $
    sets ! (addr ! (from ! (fld ! refl (hop ! (look_in_at ! 1 (sub ! 0 refl (whole !))) (stop !))))) refl (tt, tt) $
    sets ! (of_opd ! (get_in ! (fld ! refl (stop !)) (sub ! 1 refl (whole !)))) refl (tt, record { fits = count }) $
    sets ! (agg ! (and_then ! (get ! refl) (and_then ! (get ! refl) (and_then ! (get ! refl) (no_more !))))) refl (tt, (tt, (record { fits = count }, (record { fits = are.1.0.1 }, tt)))) $
    rewrite ! 0 (λ (k : Lft). ‵ (elements_shared u8 xs b o k)) (sym life) refl $
    use0 𝓛 (‵ Fields) (makes_shadow 𝓛 Fields (λ _. (tt, (tt, ((tt, tt), ((tt, tt), tt)))))
    ((vptr b o ∷ [], (vint w64 (length xs) ∷ [], (vint w64 value ∷ [], tt))), (refl, (refl, ((refl, count), ((refl, are.1.0.1), tt)))))) $ fjoin ! $
    use1 𝓛 (‵ (Entry.the_row.own_val made (w ∷ []))) (id⊢ 𝓤 _) $
    returns ! (look_at ! 0 refl) $ free_all ! refl $
    suffices ! _ (ends_at 𝓛 f.ended hs c z w made (tt, (tt, (tt, tt))) (tt, (tt, (tt, tt)))) $ says ! (record { text = refl; len = refl; value = refl; for_life = refl }) $
    nothing ! $ nothing ! $ fjoin ! $ nothing ! $ fjoin ! $ nothing ! $ fjoin ! $ move ! (3 ∷ []) $ drop ! $ move ! (2 ∷ 0 ∷ 1 ∷ []) $ done !))))))
