-- `entry_mut` borrows the key and the value, and the leaf follows both. Assumes `Logic`.
--     cut, back     a leaf in memory is its key, its value and the rest, and back at any key and value
--     lends         the leaf's borrow becomes one of the key and one of the value, under new names
use Prim.Native.Nat.{ℕ, zero, ◌+◌}
use mathlib.Core.Path.{◌≡◌, refl, sym, subst}
use mathlib.Core.List.{List, [], ◌∷◌}
use seplogic.Ra.Ura.{Ura}
use base.Fraction.{full_share}
use base.Fml.{Fml, GName, Lft, Share, ftrue, fsep, flft, fobs, fbor}
use base.Logic.{SProp, ent, sep, ex, emp, wand, all_e, apply∗}
use mir.Syntax.{Fn, Kind, a_type, a_number, named}
use mir.MapTy.{inst_fn}
use mir.Val.{Val, vptr, vstruct, vcons, vnil}
use prog.Memory.{up, align, size}
use contract.Monad.{fact, fact_i}
use contract.Running.{tables}
use types.Logic.{Logic, sem}
use types.Kit.{‵, raw, ◌⊛◌, some, later, ◌$◌, ◌∵◌, !, qed, by, move, keep, split, split3, join, fsplit, fsplit3, fjoin, fjoin3}
use types.Kit.{fpack, feq_i, pick, use0, use1, use3, await, updating, now, show, group, done}
use types.Run.{addr, stop, fld, enter, no_more, and_then, returns}
use types.Part.{agg}
use types.ByLocal.{alloc_all, pass_all, free_all, look_at, get, through, sets}
use types.SemTy.{Body}
use types.Mut.{open_ref}
use types.Follow.{after₂, takes_two}
use denote.RattleType.{RattleType, Denots, Valss, owns}
use denote.Builtin.{RefMutOf}
use denote.Exit.{no}
use denote.Follow.{both_by, follows_both}
use denote.Memory.{mem, part_at}
use denote.Param.{Types, param, number, layout, layouts}
use denote.Param.Laws.{Laws, param_laws}
use denote.Ref.{MutBor, MutRef, mut_vals, mut_Tells}
use denote.Signature.{plain, types_at}
use denote.Steps.{nothing}
use denote.Struct.Declared.{Declared, shape}
use denote.Struct.Loose.{lawfuls}
use denote.Struct.Members.{Member, rows_of, parts_at}
use denote.Struct.Parts.{shape_of, PartsBack, Struct-parts}
use denote.Struct.Recorded.{Recorded-part}
use denote.Struct.Struct.{Struct, within}
use denote.Struct.Tuple.{tuple_type}
use denote.Triple.Walked.{Stays, stay_dropped, walk_of, Goes-spent_ref}
use Rattle.std.proofs.raw_atomic.Walks.{proved, leaves}
use Rattle.art_nodes.specs.Leaf.{with_entry}
use Rattle.art_nodes.specs.contracts.leaf_node.LeafNode.{the_row, the_type}
use Rattle.art_nodes.specs.contracts.no_bytes.NoBytes as no_bytes
use Rattle.art_nodes.specs.contracts.pointers.link.Link as links
use Rattle.art_nodes.specs.contracts.leaf_node.LeafNode.entry_mut.{ended, clauses}
use Rattle.art_nodes.specs.contracts.leaf_node.LeafNode.entry_mut.Key.{name as #self}
use Rattle.art_nodes.proofs.leaf_node.LeafNode.TheLaws.{the_loose}
use Rattle.art_nodes.proofs.leaf_node.LeafNode.entry_mut.Statement.{statement}
use Rattle.art_nodes.proofs.leaf_node.LeafNode.entry_mut.Code as code

module _ (K V : RattleType) (N : ℕ) where
  abbrev Key : RattleType
  Key = param 0 K

  abbrev Value : RattleType
  Value = param 1 V

  abbrev Leaf : RattleType
  Leaf = the_row Key Value (param 2 (number N))

  abbrev form : Declared
  form = the_type Key Value (param 2 (number N))

  abbrev link : Member
  link = let row = links.the_field.row in record { row = row; ty = layout row }

  abbrev filler : Member
  filler = let row = (no_bytes.the_field Key (param 2 (number N))).row in record { row = row; ty = layout row }

  abbrev members : List Member
  members = record { row = Key; ty = layout K } ∷ record { row = Value; ty = layout V } ∷ link ∷ link ∷ filler ∷ []

  abbrev key_place : ℕ
  key_place = up (align (layout K)) 0

  abbrev value_place : ℕ
  value_place = up (align (layout V)) (key_place + size (layout K))

  abbrev Lent : Lft → List RattleType
  Lent κ = MutRef (named 0) κ Key ∷ MutRef (named 0) κ Value ∷ []

  module _ (b o : ℕ) (leaf : Leaf.Denot) where
    abbrev key_ref : GName × GName → MutBor Key.Denot
    key_ref γs = record { ref_ptr = (b, o + key_place); ghost_name = γs.0; now = leaf.key }

    abbrev value_ref : GName × GName → MutBor Value.Denot
    value_ref γs = record { ref_ptr = (b, o + value_place); ghost_name = γs.1; now = leaf.value }

    abbrev key_vals : List Val
    key_vals = vptr b (o + key_place) ∷ []

    abbrev value_vals : List Val
    value_vals = vptr b (o + value_place) ∷ []

    abbrev KeyLent : Lft → GName × GName → Fml
    KeyLent κ γs = (MutRef (named 0) κ Key).own_val (key_ref γs) key_vals

    abbrev ValueLent : Lft → GName × GName → Fml
    ValueLent κ γs = (MutRef (named 0) κ Value).own_val (value_ref γs) value_vals

    abbrev Follows : GName → GName × GName → Fml
    Follows γ γs = follows_both Leaf Key Value γ γs.0 γs.1 (with_entry leaf)

    module _ (LK : Laws K) (LV : Laws V) {M : Type 1} {𝓤 : Ura M} (𝓛 : Logic 𝓤) where
      open 𝓛 use {H, A}

      abbrev KeyAt : Key.Denot → Fml
      KeyAt key = part_at Key full_share key b (o + key_place)

      abbrev ValueAt : Value.Denot → Fml
      ValueAt value = part_at Value full_share value b (o + value_place)

      abbrev LeafAt : Leaf.Denot → Fml
      LeafAt x = part_at Leaf full_share x b o

      -- the fields side by side, those behind the value, and the way back to a leaf
      abbrev Parts : Denots (rows_of members) → Fml
      Parts x = parts_at full_share members zero x b o

      abbrev Links : Fml
      Links = parts_at full_share (link ∷ link ∷ filler ∷ []) (value_place + size (layout V)) (form.to leaf).1.1 b o

      abbrev Struct_at : Denots (rows_of members) → Fml
      Struct_at x = part_at (Struct (shape_of form.name members)) full_share x b o

      abbrev Whole : SProp 𝓤
      Whole = PartsBack 𝓛 full_share form.name members b o

      abbrev Rest : SProp 𝓤
      Rest = sep 𝓤 (sem 𝓛 Links) Whole

      same : (x : Leaf.Denot) → Struct_at (form.to x) ≡ LeafAt x
      same x = sym (Recorded-part (Struct (shape_of form.name members)) form.D form.to form.to_one full_share x b o)

      cut : ent 𝓤 (sem 𝓛 (LeafAt leaf)) (sep 𝓤 (sem 𝓛 (Parts (form.to leaf))) Whole)
      cut =
          let laws = the_loose Key Value (param 2 (number N)) (param_laws 0 K LK) (param_laws 1 V LV) refl in
          subst (λ (F : Fml). ent 𝓤 (sem 𝓛 F) (sep 𝓤 (sem 𝓛 (Parts (form.to leaf))) Whole)) (same leaf)
          (Struct-parts 𝓛 full_share form.name members (lawfuls 𝓛 form.parts laws) (form.to leaf) b o)

      back : (key : Key.Denot) (value : Value.Denot)
          → ent 𝓤 (sep 𝓤 (sem 𝓛 (KeyAt key)) (sep 𝓤 (sem 𝓛 (ValueAt value)) Rest)) (sem 𝓛 (LeafAt (with_entry leaf key value)))
      back key value =
          let x = form.to (with_entry leaf key value) in
          let Way : Denots (rows_of members) → SProp 𝓤 = λ z. wand 𝓤 (sem 𝓛 (Parts z)) (sem 𝓛 (Struct_at z)) in
          subst (λ (F : Fml). ent 𝓤 (sep 𝓤 (sem 𝓛 (KeyAt key)) (sep 𝓤 (sem 𝓛 (ValueAt value)) Rest)) (sem 𝓛 F)) (same (with_entry leaf key value))
          (qed 𝓛 (‵ (KeyAt key) ∷ ‵ (ValueAt value) ∷ (‵ Links ⊛ raw Whole) ∷ []) ∵
          move ! (2 ∷ []) $ split ! $ move ! (2 ∷ 3 ∷ 0 ∷ []) $ fjoin3 ! $ move ! (1 ∷ []) $ use1 𝓛 (raw (Way x)) (all_e 𝓤 Way x) $
          move ! (1 ∷ 0 ∷ []) $ by ! (apply∗ 𝓤 (sem 𝓛 (Parts x)) (sem 𝓛 (Struct_at x))))

      module _ (κ : Lft) (q : Share) (γ : GName) where
        abbrev Both : GName × GName → SProp 𝓤
        Both γs = sep 𝓤 (sem 𝓛 (KeyLent κ γs)) (sep 𝓤 (sem 𝓛 (ValueLent κ γs)) (sep 𝓤 (A.lft κ q) (sem 𝓛 (Follows γ γs))))

        lends : ent 𝓤 (sep 𝓤 (A.obs γ (Leaf.coded.code leaf)) (sep 𝓤 (A.bor κ (Body (mem Leaf) b o γ)) (A.lft κ q))) (H.⇛ (ex 𝓤 Both))
        unfolding both_by
        lends =
            let was = Leaf.coded.code leaf in
            qed 𝓛 (‵ (fobs γ was) ∷ ‵ (fbor κ (Body (mem Leaf) b o γ)) ∷ ‵ (flft κ q) ∷ []) ∵ updating ! $ open_ref ! tt (mem Leaf) {b = b} {o = o} $
            use1 𝓛 (‵ (Parts (form.to leaf)) ⊛ raw Whole) cut $ split ! $ fsplit3 ! $
            -- [the key; the value; the other fields; the way back; the open borrow; obs; auth]
            move ! (2 ∷ 3 ∷ []) $ join ! $ move ! (3 ∷ 4 ∷ 5 ∷ 1 ∷ 2 ∷ 0 ∷ []) $ group ! 6 $
            use1 𝓛 (later (some (λ (γs : GName × GName).
            (‵ (fobs γs.0 (Key.coded.code leaf.key)) ⊛ ‵ (fbor κ (Body (mem Key) b (o + key_place) γs.0)))
            ⊛ (‵ (fobs γs.1 (Value.coded.code leaf.value)) ⊛ ‵ (fbor κ (Body (mem Value) b (o + value_place) γs.1)))
            ⊛ ‵ (flft κ q) ⊛ ‵ (after₂ (mem Leaf) (mem Key) (mem Value) γ γs.0 γs.1 (with_entry leaf)))))
            (takes_two 𝓛 (mem Leaf) (mem Key) (mem Value) (with_entry leaf) κ q b o b (o + key_place) b (o + value_place) γ
            Rest back was was leaf.key leaf.value) $
            await ! tt $ pick ! (λ γs. split3 ! $ split ! $ feq_i ! (List Val) key_vals key_vals refl $ fjoin3 ! $
            move ! (1 ∷ []) $ split ! $ feq_i ! (List Val) value_vals value_vals refl $ fjoin3 ! $ move ! (1 ∷ 0 ∷ []) $ now ! $ show ! Both γs $ done !)

abbrev kinds : List Kind
kinds = a_type ∷ a_type ∷ a_number ∷ []

pub entry_mut_spec : {M : Type 1} → statement M
entry_mut_spec 𝓤 𝓛 𝓜 𝓡 wired K V N LK LV fits =
    let H = 𝓛.H in let 𝓣 = tables 𝓤 H 𝓜 𝓡 𝓡.env in
    let args : Types kinds = (K, (V, (number N, tt))) in let fn : Fn = inst_fn (layouts kinds args) code.function in
    let En = ended K V (number N) in let c = clauses K V (number N) 𝓛 𝓜.mem 𝓡.returns in
    let hs : Stays En.signature.params En.kept = (stay_dropped (RefMutOf (0 ∷ []) tt (plain (λ _. Leaf K V N)) (λ _. tt)) no, tt) in
    proved 𝓛 En hs c 𝓜 𝓡 (Goes-spent_ref 𝓛 4 (0 ∷ []) tt (plain (λ _. Leaf K V N)), tt)
    (#self (layouts kinds args)) fn (code.unfolded 𝓤 H 𝓜 𝓡 wired args)
    (λ κs. (mut_vals, tt)) (λ κs. (mut_Tells (named 0) κs.0 (Leaf K V N), tt)) (λ κs qs bounds a gh are.
    let κ : Lft = κs.0 in let q : Share = qs.0 in let γ : GName = a.0.ghost_name in
    let b : ℕ = a.0.ref_ptr.0 in let o : ℕ = a.0.ref_ptr.1 in let leaf : (Leaf K V N).Denot = a.0.now in
    let y : (walk_of 𝓛 En hs c).Ghost = ((κs, qs, bounds, a, (vptr b o ∷ [], tt)), gh) in
    let others : Fml = fsep (flft κs.1.0 qs.1.0) (fsep (flft κs.1.1.0 qs.1.1.0) (fsep (flft κs.1.1.1.0 qs.1.1.1.0) ftrue)) in
    let v : Val = vstruct (vcons (vptr b (o + key_place K V N)) (vcons (vptr b (o + value_place K V N)) vnil)) in
    let key = key_ref K V N b o leaf in let value = value_ref K V N b o leaf in
    qed 𝓛 (((‵ (flft κ q) ⊛ ‵ others) ⊛ ‵ (owns (types_at En.signature.params κs) a y.0.4)) ∷ raw ((c κs a).requires gh) ∷ []) ∵
    split ! $ split ! $ move ! (2 ∷ []) $ fsplit ! $ fsplit3 ! $ keep ! (1 ∷ 2 ∷ 4 ∷ 5 ∷ []) $
    enter ! 𝓣.C 𝓣.Λ fn (vptr b o ∷ []) ((walk_of 𝓛 En hs c).post y) $ alloc_all ! (λ l. pass_all ! refl ((tt, tt), tt) $
    sets ! (addr ! (through ! refl (fld ! refl (stop !)))) refl (tt, tt) $
    sets ! (addr ! (through ! refl (fld ! refl (stop !)))) refl (tt, tt) $
    sets ! (agg ! (and_then ! (get ! refl) (and_then ! (get ! refl) (no_more !)))) refl (tt, (tt, (tt, tt))) $
    use3 𝓛 (later (some (λ (γs : GName × GName).
    ‵ (KeyLent K V N b o leaf κ γs) ⊛ ‵ (ValueLent K V N b o leaf κ γs) ⊛ ‵ (flft κ q) ⊛ ‵ (Follows K V N b o leaf γ γs))))
    (lends K V N b o leaf LK LV 𝓛 κ q γ) $ await ! tt $ pick ! (λ γs. split3 ! $
    nothing ! $ move ! (2 ∷ 0 ∷ []) $ fjoin ! $ move ! (1 ∷ 0 ∷ []) $ fjoin ! $ feq_i ! (List Val) (v ∷ []) (v ∷ []) refl $ fjoin ! $
    fpack ! (Valss (Lent K V N κ)) (within (shape (tuple_type (Lent K V N κ))) (key γs, (value γs, tt)) (v ∷ []))
    (key_vals K V N b o leaf, (value_vals K V N b o leaf, tt)) $ move ! (1 ∷ []) $ split ! $
    -- [the token; what the leaf follows; the pair; the other tokens]
    returns ! (look_at ! 0 refl) $ free_all ! refl $ move ! (0 ∷ 3 ∷ []) $ join ! $
    use0 𝓛 (raw (fact 𝓤 ((value γs).now ≡ leaf.value))) (fact_i 𝓤 _ (emp 𝓤) refl) $
    use0 𝓛 (raw (fact 𝓤 ((key γs).now ≡ leaf.key))) (fact_i 𝓤 _ (emp 𝓤) refl) $ join ! $ move ! (2 ∷ 0 ∷ []) $ join ! $
    nothing ! $ nothing ! $ fjoin ! $ keep ! (2 ∷ 0 ∷ 3 ∷ 1 ∷ []) $ by ! (leaves 𝓛 En hs c y v (key γs, value γs) (tt, tt) (tt, tt)))))
