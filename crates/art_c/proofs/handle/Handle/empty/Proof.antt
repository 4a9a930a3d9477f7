-- There is no map at a null address.
use Rattle.std.proofs.Common.{List, [], ◌∷◌, ◌++◌, refl, sym, subst, None}
use base.Logic.{ent, id⊢}
use base.Fml.{ftrue, fsep}
use mir.Val.{Val, vint, vstruct, vcons, vnil, has_ty, WT}
use prog.Wp.{WpFn}
use contract.Running.{tables}
use types.Kit.{‵, ◌⊛◌, ◌$◌, ◌∵◌, !, qed, move, drop, use1, join, split, fsplit, fjoin, suffices, done, feq_i, fpack}
use types.Part.{agg}
use types.Run.{lit, no_more, and_then, returns, enter}
use types.ByLocal.{alloc_all, pass_all, free_all, look_at, get, sets}
use denote.Exit.{yes}
use denote.Signature.{plain, type_at}
use denote.Steps.{nothing}
use denote.Triple.Walked.{says, Stays, stay_dropped, walk_of, ends_at, Goes-dropped}
use Rattle.std.proofs.raw_atomic.Walks.{proved_at}
use denote.RattleType.{Valss}
use denote.RawPtr.{RawPtr, Ptr, null_ptr, ptr_val}
use denote.Struct.Struct.{within}
use denote.Struct.Owning.{shape}
use lib.Dec.{T, lit<}
use denote.Param.{layout}
use mir.Syntax.{w64}
use Rattle.core.proofs.alloc.Calls.{α, handle_tells}
use Rattle.std_alloc.proofs.ResultValues.{and_tt}
use Rattle.std_heap.specs.contracts.Global as Heap
use Rattle.art_c.proofs.HeldBox.{E}
use Rattle.art_c.specs.contracts.handle.Handle as handles
use Rattle.art_c.specs.contracts.handle.Handle.empty as f
use Rattle.art_c.proofs.handle.Handle.empty.Statement.{statement}
use Rattle.art_c.proofs.handle.Handle.empty.Code as code

pub empty_spec : {M : Type 1} → statement M
empty_spec 𝓤 𝓛 𝓜 𝓡 wired =
    let H = 𝓛.H in let 𝓣 = tables 𝓤 H 𝓜 𝓡 𝓡.env in let c = f.clauses 𝓛 𝓜.mem 𝓡.returns in let fn = code.function in
    let Handle = plain (λ _. Heap.the_row) in
    let hs : Stays f.ended.signature.params f.ended.kept = (stay_dropped Handle yes, tt) in
    proved_at 𝓛 f.ended hs c 𝓜 𝓡 (Goes-dropped 𝓛 0 Handle yes (λ κs x w. refl), tt) f.Key.name fn (code.unfolded 𝓤 H 𝓜 𝓡 wired) (λ z are.
    let Post = (walk_of 𝓛 f.ended hs c).post z in
    let alloc = z.0.3.0 in
    qed 𝓛 ((‵ ftrue ⊛ ‵ (fsep (Heap.the_row.own_val alloc z.0.4.0) ftrue)) ∷ ‵ ftrue ∷ []) ∵ split ! $ drop ! $ fsplit ! $
    handle_tells E.al ! alloc z.0.4.0 (λ handle is_handle fits.
    let w = vstruct (vcons (vint w64 0) (vcons handle vnil)) in
    let To = type_at f.signature.result tt in
    let made : To.Denot = record { ptr = null_ptr; alloc = alloc; held = None } in
    let typed : T (has_ty (layout handles.the_row) w) × WT w = (and_tt (has_ty (α E.al) handle) fits.0, (record { fits = lit< tt }, (fits.1, tt))) in
    nothing ! $ move ! (1 ∷ 0 ∷ []) $ fjoin ! $ feq_i ! (List Val) (vint w64 0 ∷ []) (ptr_val null_ptr ∷ []) refl $ fjoin ! $
    feq_i ! (List Val) (w ∷ []) (w ∷ []) refl $ fjoin ! $
    fpack ! (Valss (RawPtr ∷ Heap.the_row ∷ [])) (within (shape handles.the_type) (null_ptr, (((alloc.memory.seal, tt), tt), tt)) (w ∷ [])) (vint w64 0 ∷ [], (handle ∷ [], tt)) $
    feq_i ! Ptr null_ptr null_ptr refl $ move ! (1 ∷ 0 ∷ []) $ fjoin ! $
    use1 𝓛 (‵ (To.own_val made (w ∷ []))) (id⊢ 𝓤 _) $ move ! (1 ∷ 2 ∷ []) $ drop ! $ drop ! $
    suffices ! (WpFn 𝓤 H 𝓣.C 𝓣.Λ fn (handle ∷ []) Post) (subst (λ (us : List Val). ent 𝓤 (WpFn 𝓤 H 𝓣.C 𝓣.Λ fn (handle ∷ []) Post) (WpFn 𝓤 H 𝓣.C 𝓣.Λ fn (us ++ []) Post)) (sym is_handle) (id⊢ 𝓤 _)) $
    enter ! 𝓣.C 𝓣.Λ fn (handle ∷ []) _ $ alloc_all ! (λ l. pass_all ! refl (fits, tt) $
    sets ! (agg ! (and_then ! (lit ! tt) (and_then ! (get ! refl) (no_more !)))) refl typed $
    returns ! (look_at ! 0 refl) $ free_all ! refl $
    suffices ! _ (ends_at 𝓛 f.ended hs c z w made (tt, tt) (tt, tt)) $ says ! refl $
    nothing ! $ nothing ! $ fjoin ! $ join ! $ nothing ! $ join ! $ done !)))
