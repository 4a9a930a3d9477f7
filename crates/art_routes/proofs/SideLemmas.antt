-- On which sides of keys texts lie, and the routes whose keys do.
use Rattle.art_routes.proofs.LeafNames.{After, AfterBegun, Before, Bool, Equal, Greater, Less, List, Ordering, Side, [], ap, false, filter, filter_agree, is_before, is_between, is_ge, is_gt, is_le, is_lt, not, refl, text_order, true, ℕ, ◌&&◌, ◌∙◌, ◌∷◌, ◌≡◌}
use Rattle.art_routes.specs.KeyLaws.{key_order}
use Rattle.art_routes.specs.Keys.{key_text, last_network}
use Rattle.art_routes.specs.Networks.{Block, IsNetwork, covers, network_order}
use Rattle.art_routes.specs.Tables.{at_or_after, behind, covered}
use Rattle.art_routes.specs.UpTo.{ahead, at_or_before}
use Rattle.art_routes.proofs.CoveredLemmas.{in_range}
use Rattle.art_routes.proofs.RouteLemmas.{AreNetworks, picked-read}

-- nothing comes before the empty key, and everything before the end of all that begins with it
pub none-before : (text : List ℕ) → is_before Before [] text ≡ false
none-before [] = refl
none-before (x ∷ text) = refl

pub all-before : (text : List ℕ) → is_before AfterBegun [] text ≡ true
all-before [] = refl
all-before (x ∷ text) = refl

-- the same as an end
pub all-between : (text : List ℕ) → is_between Before [] AfterBegun [] text ≡ true
all-between text = λ i. all-before text i && not (none-before text i)

-- tests of orders
pub not-lt : (o : Ordering) → not (is_lt o) ≡ is_ge o
not-lt Less = refl
not-lt Equal = refl
not-lt Greater = refl

pub not-le : (o : Ordering) → not (is_le o) ≡ is_gt o
not-le Less = refl
not-le Equal = refl
not-le Greater = refl

pub filter-all : {A : Type 0} (p : A → Bool) → ((x : A) → p x ≡ true) → (xs : List A) → filter p xs ≡ xs
filter-all {A} p all xs = filter_agree p (λ _. true) all xs ∙ keep xs
  where
    keep : (xs : List A) → filter (λ _. true) xs ≡ xs
    keep [] = refl
    keep (x ∷ xs) = ap (λ ys. x ∷ ys) (keep xs)

also-true : (t : Bool) → (t && true) ≡ t
also-true true = refl
also-true false = refl

-- the routes whose keys lie on one side of that of a network
module _ {V : Type 0} (routes : List (Block × V)) (all : AreNetworks routes) (network : Block) (is : IsNetwork network) (bytes : List ℕ) (written : bytes ≡ key_text network) where
  order : (x : Block) → IsNetwork x → text_order (key_text x) bytes ≡ network_order x network
  order x x_is = ap (text_order (key_text x)) written ∙ key_order x network x_is is

  from-start : (side : Side) (test : Ordering → Bool) → ((text : List ℕ) → not (is_before side bytes text) ≡ test (text_order text bytes))
      → filter (λ route. is_between side bytes AfterBegun [] (key_text route.0)) routes ≡ filter (λ route. test (network_order route.0 network)) routes
  from-start side test reads =
      picked-read (λ x. is_between side bytes AfterBegun [] (key_text x)) (λ x. test (network_order x network))
      (λ x x_is. ap (λ b. b && not (is_before side bytes (key_text x))) (all-before (key_text x)) ∙ reads (key_text x) ∙ ap test (order x x_is)) routes all

  up-to-end : (side : Side) (test : Ordering → Bool) → ((text : List ℕ) → is_before side bytes text ≡ test (text_order text bytes))
      → filter (λ route. is_between Before [] side bytes (key_text route.0)) routes ≡ filter (λ route. test (network_order route.0 network)) routes
  up-to-end side test reads =
      picked-read (λ x. is_between Before [] side bytes (key_text x)) (λ x. test (network_order x network))
      (λ x x_is. ap (λ b. is_before side bytes (key_text x) && not b) (none-before (key_text x)) ∙ also-true (is_before side bytes (key_text x)) ∙ reads (key_text x) ∙ ap test (order x x_is)) routes all

  pub from-at : filter (λ route. is_between Before bytes AfterBegun [] (key_text route.0)) routes ≡ at_or_after network routes
  from-at = from-start Before is_ge (λ text. not-lt (text_order text bytes))

  pub after-at : filter (λ route. is_between After bytes AfterBegun [] (key_text route.0)) routes ≡ behind network routes
  after-at = from-start After is_gt (λ text. not-le (text_order text bytes))

  pub up-to-at : filter (λ route. is_between Before [] After bytes (key_text route.0)) routes ≡ at_or_before network routes
  up-to-at = up-to-end After is_le (λ text. refl)

  pub before-at : filter (λ route. is_between Before [] Before bytes (key_text route.0)) routes ≡ ahead network routes
  before-at = up-to-end Before is_lt (λ text. refl)

  -- up to the key of the last address alone they are the routes that are covered
  pub covered-at : (last : Block) → IsNetwork last → last ≡ last_network network → (end : List ℕ) → end ≡ key_text last → filter (λ route. is_between Before bytes After end (key_text route.0)) routes ≡ covered network routes
  covered-at last last_is ends end end_is =
      picked-read (λ x. is_between Before bytes After end (key_text x)) (covers network)
      (λ x x_is.
      ap (λ b. is_le (text_order (key_text x) end) && b) (not-lt (text_order (key_text x) bytes))
      ∙ (λ i. is_le ((ap (text_order (key_text x)) end_is ∙ key_order x last x_is last_is ∙ ap (network_order x) ends) i) && is_ge (order x x_is i))
      ∙ in_range network x is x_is) routes all
