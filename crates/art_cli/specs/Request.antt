-- Requests, by the words that make them.
use Rattle.std.specs.Prelude.{◌≡◌, ◌≢◌, ℕ, List, [], ◌∷◌, String, map, codes, length, string_bytes}
use Rattle.art_cli.specs.declared.request.Request.{Request}
use Rattle.art_cli.specs.declared.request.Request.TheVariants.{Replay, Find0, Find2, Find16}
use Rattle.art_cli.specs.declared.request.Texts.{Texts}
use Rattle.art_cli.specs.declared.request.Texts.TheVariants.{One, Two, Others}

-- the words that ask for it
abbrev pub words_for : Request → List (List ℕ)
words_for Replay = codes "replay" ∷ []
words_for Find0 = codes "find" ∷ codes "0" ∷ []
words_for Find2 = codes "find" ∷ codes "2" ∷ []
words_for Find16 = codes "find" ∷ codes "16" ∷ []

module _ {A : Type 0} where
  -- the words ask for this
  abbrev pub AskFor : List (String A) → Request → Type 0
  AskFor words request = map string_bytes words ≡ words_for request

  -- the program takes the words
  abbrev pub AreTaken : List (String A) → Type 0
  AreTaken words = (request : Request) × AskFor words request

-- one text or two as they are, or some other number of them
abbrev pub AreTexts : List (List ℕ) → Texts → Type 0
AreTexts texts (One text) = texts ≡ text.now ∷ []
AreTexts texts (Two first second) = texts ≡ first.now ∷ second.now ∷ []
AreTexts texts Others = (length texts ≢ 1) × (length texts ≢ 2)
