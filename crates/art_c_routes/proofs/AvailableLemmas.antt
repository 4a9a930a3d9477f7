-- Addresses that are written one behind another, of so many bytes each.
use Rattle.std.proofs.Common.{◌≡◌, ◌≢◌, ◌∙◌, ◌⊎◌, ◌↔◌, inl, inr, ℕ, zero, suc, ◌+◌, ◌*◌, ◌/◌, ◌≤◌, List, [], ◌∷◌, ◌++◌, All, AllPairs, Contains, IfSome, Option, None, Some, subst, get_or, length, min, take, drop, if◌then◌else◌, refl, sym, ap, arith, append_assoc, append-nil, add-one, drop-drop}
use Rattle.std.proofs.Math.Seq.{drop-append_seam, take-append_seam}
use Rattle.std.proofs.lemmas.Bool.{le-leb}
use Rattle.std.proofs.lemmas.Grind.{flat_map-append}
use Rattle.std.proofs.lemmas.List.{length-append, length-drop, length-take, length-take-le}
use Rattle.std.proofs.lemmas.List.Elements.{All-head, All-tail, All-nil, All-cons}
use Rattle.art_routes.specs.declared.address.Address.{Address}
use Rattle.std.specs.declared.cmp.Ordering.TheVariants.{Less}
use Rattle.std.proofs.lemmas.List.Elements.{Contains-get_or}
use Rattle.art_routes.specs.FreeNetworks.{BeginsBehind, IsFree}
use Rattle.art_routes.specs.Networks.{Block, network_order}
use Rattle.art_routes.proofs.CoverLemmas.{is-over}
use Rattle.art_c_maps.specs.Entries.{begun_with}
use Rattle.art_c_maps.specs.Buffers.{written}
use Rattle.art_c_maps.proofs.WriteLemmas.{left-behind, take-min}
use Rattle.art_c_routes.specs.Addresses.{address_bytes, byte_count, network_in}
use Rattle.art_c_routes.specs.Available.{AreAvailable, joined_addresses}

-- an address has as many bytes as its width says
pub bytes-long : (address : Address) → ((address.width ≡ 32) ⊎ (address.width ≡ 128)) → length (address_bytes address) ≡ byte_count address
bytes-long address (inl four) = rw four refl
bytes-long address (inr sixteen) = rw sixteen refl

-- one item more
pub take-more : {X : Type 0} (xs : List X) (k : ℕ) (x : X) (rest : List X) → drop k xs ≡ x ∷ rest → take (k + 1) xs ≡ take k xs ++ x ∷ []
take-more [] zero x rest left = absurd (cc)
take-more [] (suc k) x rest left = absurd (cc)
take-more (y ∷ xs) zero x rest left = let same : y ≡ x = cc in ap (λ z. z ∷ []) same
take-more (y ∷ xs) (suc k) x rest left =
    let one : suc k ≡ k + 1 = omega arith in
    let two : suc k + 1 ≡ suc (suc k) = omega arith in
    ap (λ n. take n (y ∷ xs)) two ∙ ap (λ all. y ∷ all) (ap (λ n. take n xs) one ∙ take-more xs k x rest left)

mul-suc : (k width : ℕ) → (k + 1) * width ≡ k * width + width
mul-suc k width = omega arith

sum-suc : (k width : ℕ) → k * width + width ≡ (k + 1) * width
sum-suc k width = omega arith

-- bytes that fit are written
fits-written : (bytes buffer : List ℕ) → length bytes ≤ length buffer → written bytes buffer ≡ bytes ++ drop (length bytes) buffer
fits-written bytes buffer fits = ap (λ t. if t then bytes ++ drop (length bytes) buffer else buffer) (le-leb (length bytes) (length buffer) fits)

module _ (width : ℕ) where
  -- each address has so many bytes
  abbrev pub AreWide : List Block → Type 0
  AreWide parts = All (λ part. length (address_bytes part.address) ≡ width) parts

  pub first-wide : (k : ℕ) (parts : List Block) → AreWide parts → AreWide (take k parts)
  first-wide zero parts are = All-nil (λ part. length (address_bytes part.address) ≡ width)
  first-wide (suc k) [] are = are
  first-wide (suc k) (part ∷ parts) are =
      All-cons (λ p. length (address_bytes p.address) ≡ width) part (take k parts) (All-head (λ p. length (address_bytes p.address) ≡ width) part parts are)
      (first-wide k parts (All-tail (λ p. length (address_bytes p.address) ≡ width) part parts are))

  pub all-long : (parts : List Block) → AreWide parts → length (joined_addresses parts) ≡ length parts * width
  all-long [] are = omega arith
  all-long (part ∷ parts) are =
      let here = All-head (λ p. length (address_bytes p.address) ≡ width) part parts are in
      let rest = all-long parts (All-tail (λ p. length (address_bytes p.address) ≡ width) part parts are) in
      omega (arith, here, rest, length-append (address_bytes part.address) (joined_addresses parts))

  wide-at : (parts : List Block) (k : ℕ) (part : Block) (rest : List Block) → AreWide parts → drop k parts ≡ part ∷ rest → length (address_bytes part.address) ≡ width
  wide-at [] zero part rest are left = absurd (cc)
  wide-at [] (suc k) part rest are left = absurd (cc)
  wide-at (p ∷ parts) zero part rest are left =
      let same : part ≡ p = cc in
      ap (λ q. length (address_bytes q.address)) same ∙ All-head (λ q. length (address_bytes q.address) ≡ width) p parts are
  wide-at (p ∷ parts) (suc k) part rest are left = wide-at parts k part rest (All-tail (λ q. length (address_bytes q.address) ≡ width) p parts are) left

  -- all are written
  pub done-written : (parts : List Block) (buffer : List ℕ) (k most : ℕ) → AreWide parts → k ≡ min most (length parts)
      → joined_addresses (take k parts) ++ drop (k * width) buffer ≡ begun_with (joined_addresses (take most parts)) buffer
  done-written parts buffer k most are is =
      let same : take k parts ≡ take most parts = ap (λ n. take n parts) is ∙ take-min most parts in
      let long : k * width ≡ length (joined_addresses (take most parts)) =
      ap (λ n. n * width) (is ∙ sym (length-take most parts)) ∙ sym (all-long (take most parts) (first-wide most parts are)) in
      (λ i. joined_addresses (same i) ++ drop (long i) buffer)

  -- one address more is written
  pub more-written : (parts : List Block) (buffer : List ℕ) (k : ℕ) (part : Block) (rest : List Block) → AreWide parts → drop k parts ≡ part ∷ rest → (k + 1) * width ≤ length buffer
      → take (k * width) (joined_addresses (take k parts) ++ drop (k * width) buffer) ++ written (address_bytes part.address) (drop (k * width) (joined_addresses (take k parts) ++ drop (k * width) buffer))
      ≡ joined_addresses (take (k + 1) parts) ++ drop ((k + 1) * width) buffer
  more-written parts buffer k part rest are left fits =
      let wide = wide-at parts k part rest are left in
      let bytes = address_bytes part.address in
      let done = joined_addresses (take k parts) in
      let behind = drop (k * width) buffer in
      let some = left-behind parts k part rest left in
      let long : length done ≡ k * width = all-long (take k parts) (first-wide k parts are) ∙ ap (λ n. n * width) (length-take-le k parts (omega (arith, some.1))) in
      let room : length bytes ≤ length behind = omega (arith, wide, fits, length-drop (k * width) buffer, mul-suc k width) in
      let kept : take (k * width) (done ++ behind) ≡ done = ap (λ n. take n (done ++ behind)) (sym long) ∙ take-append_seam done behind in
      let gone : drop (k * width) (done ++ behind) ≡ behind = ap (λ n. drop n (done ++ behind)) (sym long) ∙ drop-append_seam done behind in
      let at_end : drop (length bytes) behind ≡ drop ((k + 1) * width) buffer = ap (λ n. drop n behind) wide ∙ drop-drop width (k * width) buffer ∙ ap (λ n. drop n buffer) (sum-suc k width) in
      let one : joined_addresses (take (k + 1) parts) ≡ done ++ bytes =
      ap joined_addresses (take-more parts k part rest left) ∙ flat_map-append (λ p. address_bytes p.address) (take k parts) (part ∷ []) ∙ ap (λ xs. done ++ xs) (append-nil bytes) in
      (λ i. kept i ++ written bytes (gone i))
      ∙ ap (λ xs. done ++ xs) (fits-written bytes behind room)
      ∙ ap (λ xs. done ++ (bytes ++ xs)) at_end
      ∙ sym (append_assoc done bytes (drop ((k + 1) * width) buffer))
      ∙ ap (λ xs. xs ++ drop ((k + 1) * width) buffer) (sym one)

-- ---- which networks they are of
module _ (routes : List (Block × ℕ)) (network : Block) (count : ℕ) (after : List ℕ) where
  -- all free networks, where no place is given
  pub all-available : (free : List Block) → length after ≡ 0 → AllPairs (λ a b. network_order a b ≡ Less) free → ((part : Block) → Contains free part ↔ IsFree routes network count part)
      → AreAvailable routes network count after free
  all-available free none order exactly = record {
    order = order;
    exactly = λ part. (λ there. ((exactly part).0 there, λ some. absurd (some none)), λ found. (exactly part).1 found.0);
  }

  -- those behind a place
  pub behind-available : (place : Block) (result : Option (List Block)) → length after ≢ 0 → place ≡ network_in after count
      → IfSome result (λ free. AllPairs (λ a b. network_order a b ≡ Less) free)
      → IfSome result (λ free. (part : Block) → Contains free part ↔ (IsFree routes network count part × BeginsBehind place part))
      → IfSome result (AreAvailable routes network count after)
  behind-available place None some is order exactly = tt
  behind-available place (Some free) some is order exactly = record {
    order = order;
    exactly = λ part. (
      λ there. let found = (exactly part).0 there in (found.0, λ given. subst (λ n. BeginsBehind n part) is found.1),
      λ found. (exactly part).1 (found.0, subst (λ n. BeginsBehind n part) (sym is) (found.1 some)),
    );
  }

  -- each has as many bytes as the network
  pub available-wide : (width : ℕ) (free : List Block) → network.address.width ≡ 8 * width → AreAvailable routes network count after free → AreWide width free
  available-wide width free is are = λ k d inside.
      let part = get_or free k d in
      let found = ((are.exactly part).0 (Contains-get_or free k d inside)).0 in
      let widths = (is-over network part.address part.length found.inside).in_it.widths in
      let eighth : 8 * width / 8 ≡ width = omega arith in
      bytes-long part.address found.is_network.family ∙ ap (λ w. w / 8) (widths ∙ is) ∙ eighth
