-- Loading: entries of which none has a fault.
use Rattle.art_steps.proofs.Names.{◌≡◌, ◌∙◌, ℕ, zero, suc, ◌+◌, ◌<◌, ◌≤◌, ◌^◌, Bool, true, false, List, [], ◌∷◌, length, take, get_or, All, Option, Some, None, IfSome, refl, sym, ap, subst, inl, inr, arith, nat_lt, nat_eq, ◌==◌, Ordering, Less, Equal, Greater, common_prefix_len, starts_with, get_or-map, length-map, cases_lt, eq-eqb, le-leb, le-ltb, lt-leb, lt-ltb, eqb_tells, All-from_get_or, text_order, IsFork, Forks, AreLoadable, text_of_entry, texts_of, HaveNoFault, IsRefusal, fault_at, fault_between}
use Rattle.art_steps.specs.declared.check.LoadRefusal.{LoadRefusal}
use Rattle.art_steps.specs.declared.check.LoadRefusal.TheVariants.{KeyTooLong}

pub fork-later : (x y : ℕ) (a b : List ℕ) → x ≡ y → Forks a b → Forks (x ∷ a) (y ∷ b)
fork-later x y a b same (at, fork) = (suc at, record { in_first = omega (arith, fork.in_first); in_second = omega (arith, fork.in_second); shared = ap (λ z. z ∷ take at a) same ∙ ap (λ rest. y ∷ rest) fork.shared; less = fork.less })

-- a text that is less than another, and no prefix of it, differs from it at some byte
forks : (a b : List ℕ) → text_order a b ≡ Less → starts_with nat_eq b a ≡ false → Forks a b
forks [] [] less apart = absurd (cc)
forks [] (y ∷ b) less apart = absurd (cc)
forks (x ∷ a) [] less apart = absurd (cc)
forks (x ∷ a) (y ∷ b) less apart = elim (cases_lt x y) [
  | inl below ↦ (0, record { in_first = omega arith; in_second = omega arith; shared = refl; less = below })
  | inr past ↦ elim (eqb_tells x y) [
    | inl same ↦
        let less_later : text_order a b ≡ Less = rw (le-ltb x y past, same.0) at less in
        let apart_later : starts_with nat_eq b a ≡ false = rw same.0 at apart in
        fork-later x y a b same.1 (forks a b less_later apart_later)
    | inr differ ↦ let wrong : Greater ≡ Less = rw (le-ltb x y past, differ.0) at less in absurd (cc)
  ]
]

between : (i : ℕ) (text next : List ℕ) (order : Ordering) (front : Bool) → text_order text next ≡ order → starts_with nat_eq next text ≡ front → fault_between i text next ≡ None → Forks text next
between i text next Less false is apart none = forks text next is apart
between i text next Less true is apart none = absurd (let wrong : Some _ ≡ None = rw (is, apart) at none in cc)
between i text next Equal front is apart none = absurd (let wrong : Some _ ≡ None = rw is at none in cc)
between i text next Greater front is apart none = absurd (let wrong : Some _ ≡ None = rw is at none in cc)

-- entries without a fault are short, and each differs from the next
pub loadable : (texts : List (List ℕ)) → ((i : ℕ) → i < length texts → fault_at texts i ≡ None) → AreLoadable texts
loadable texts none = record { short = is_short; fork = parts }
  where
    is_short : (i : ℕ) → i < length texts → length (text_of_entry texts i) < 2 ^ 32
    is_short i within = elim (cases_lt (length (text_of_entry texts i)) (2 ^ 32)) [
      | inl short ↦ short
      | inr long ↦ absurd (let wrong : Some _ ≡ None = rw (le-leb (2 ^ 32) (length (text_of_entry texts i)) long) at (none i within) in cc)
    ]

    parts : (i : ℕ) → i + 1 < length texts → Forks (text_of_entry texts i) (text_of_entry texts (i + 1))
    parts i within =
        let at_next : fault_between i (text_of_entry texts i) (text_of_entry texts (i + 1)) ≡ None = rw (lt-leb (2 ^ 32) (length (text_of_entry texts i)) (is_short i (omega (arith, within))), lt-leb (length texts) (i + 1) within) at (none i (omega (arith, within))) in
        between i (text_of_entry texts i) (text_of_entry texts (i + 1)) _ _ refl refl at_next

-- so every text of them is short
pub each-short : (texts : List (List ℕ)) → HaveNoFault texts → All (λ x. length x < 2 ^ 32) texts
each-short texts fine = let fits = loadable texts fine.1 in All-from_get_or (λ x. length x < 2 ^ 32) texts [] fits.short

-- a text that differs from another by a smaller byte is less
pub forks-less : (a b : List ℕ) (at : ℕ) → IsFork a b at → text_order a b ≡ Less
forks-less [] b at fork = absurd (omega (arith, fork.in_first))
forks-less (x ∷ a) [] at fork = absurd (omega (arith, fork.in_second))
forks-less (x ∷ a) (y ∷ b) zero fork = let below : nat_lt x y ≡ true = lt-ltb x y fork.less in rw below refl
forks-less (x ∷ a) (y ∷ b) (suc at) fork =
    let same : x ≡ y = (let both = fork.shared in cc) in
    let rest : take at a ≡ take at b = (let both = fork.shared in cc) in
    rw (le-ltb x y (omega (arith, same)), eq-eqb x y same) (forks-less a b at (record { in_first = omega (arith, fork.in_first); in_second = omega (arith, fork.in_second); shared = rest; less = fork.less }))

-- where it parts is how many bytes the two share
pub fork-shared : (a b : List ℕ) (at : ℕ) → IsFork a b at → common_prefix_len nat_eq a b ≡ at
fork-shared [] b at fork = absurd (omega (arith, fork.in_first))
fork-shared (x ∷ a) [] at fork = absurd (omega (arith, fork.in_second))
fork-shared (x ∷ a) (y ∷ b) zero fork = elim (eqb_tells x y) [
  | inl same ↦ absurd (omega (arith, fork.less, same.1))
  | inr differ ↦ rw differ.0 refl
]
fork-shared (x ∷ a) (y ∷ b) (suc at) fork =
    let same : x ≡ y = (let both = fork.shared in cc) in
    let rest : take at a ≡ take at b = (let both = fork.shared in cc) in
    let later = fork-shared a b at (record { in_first = omega (arith, fork.in_first); in_second = omega (arith, fork.in_second); shared = rest; less = fork.less }) in
    rw (eq-eqb x y same) (omega (arith, later))

pub not-none : (n : ℕ) (none : Bool) → none ≡ (n == 0) → none ≡ false → 0 < n
not-none zero none is never = absurd (cc)
not-none (suc n) none is never = omega arith

-- the first fault is the refusal
pub first-fault : {K V : Type 0} (text : K → List ℕ) (entries : List (K × V)) (index : ℕ) (fault : Option LoadRefusal) → fault ≡ fault_at (texts_of text entries) index → index < length entries → ((earlier : ℕ) → earlier < index → fault_at (texts_of text entries) earlier ≡ None)
    → IfSome fault (IsRefusal (texts_of text entries))
first-fault text entries index None is within before = tt
first-fault text [] index (Some refusal) is within before = absurd (omega (arith, within))
first-fault text (entry ∷ entries) index (Some refusal) is within before = (index, omega (arith, within, length-map entries (λ e. text e.0)), sym is, before)

-- the text of the entry at an index
pub text-there : {K V : Type 0} (text : K → List ℕ) (entries : List (K × V)) (i : ℕ) (d : K × V) → i < length entries → text_of_entry (texts_of text entries) i ≡ text (get_or entries i d).0
text-there text entries i d within = get_or-map (λ entry. text entry.0) entries i d [] within

-- a text of 2 ^ 32 bytes or more is at fault
pub fault-long : (texts : List (List ℕ)) (i : ℕ) (text : List ℕ) → text ≡ text_of_entry texts i → 2 ^ 32 ≤ length text → Some (KeyTooLong i) ≡ fault_at texts i
fault-long texts i text is long = let there : 2 ^ 32 ≤ length (text_of_entry texts i) = subst (λ t. 2 ^ 32 ≤ length t) is long in rw (le-leb (2 ^ 32) (length (text_of_entry texts i)) there) refl
