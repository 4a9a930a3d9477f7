-- The kind of a node with so many children.
use Rattle.art_steps.proofs.Names.{◌≡◌, ◌∙◌, ℕ, ◌+◌, ◌<◌, ◌≤◌, inl, inr, refl, sym, ap, subst, arith, cases_lt, le-leb, lt-leb, kind_for, least_children, most_children, grown_kind, shrunk_kind, NodeType, Node16, Node256, Node4, Node48}

pub kind-4 : (n : ℕ) → n ≤ 4 → kind_for n ≡ Node4
kind-4 n h = rw (le-leb n 4 h) refl

pub kind-16 : (n : ℕ) → 4 < n → n ≤ 16 → kind_for n ≡ Node16
kind-16 n l h = rw (lt-leb n 4 l, le-leb n 16 h) refl

pub kind-48 : (n : ℕ) → 16 < n → n ≤ 48 → kind_for n ≡ Node48
kind-48 n l h = rw (lt-leb n 4 (omega (arith, l)), lt-leb n 16 l, le-leb n 48 h) refl

pub kind-256 : (n : ℕ) → 48 < n → kind_for n ≡ Node256
kind-256 n l = rw (lt-leb n 4 (omega (arith, l)), lt-leb n 16 (omega (arith, l)), lt-leb n 48 l) refl

-- what follows from each kind that a node with so many children may have, follows
pub by_kind : (n : ℕ) (Goal : Type 0) → (n ≤ 4 → kind_for n ≡ Node4 → Goal) → (4 < n → n ≤ 16 → kind_for n ≡ Node16 → Goal) → (16 < n → n ≤ 48 → kind_for n ≡ Node48 → Goal) → (48 < n → kind_for n ≡ Node256 → Goal) → Goal
by_kind n Goal four sixteen many most = elim (cases_lt 4 n) [
  | inr few ↦ four few (kind-4 n few)
  | inl past ↦ elim (cases_lt 16 n) [
    | inr few ↦ sixteen past few (kind-16 n past few)
    | inl more ↦ elim (cases_lt 48 n) [ inr few ↦ many more few (kind-48 n more few) | inl all ↦ most all (kind-256 n all) ]
  ]
]

-- the fewest children of the kind for so many are no more
pub least-fits : (n : ℕ) → 2 ≤ n → least_children (kind_for n) ≤ n
least-fits n two =
    let fits = λ (k : NodeType) (is : kind_for n ≡ k) (few : least_children k ≤ n). subst (λ k. least_children k ≤ n) (sym is) few in
    by_kind n (least_children (kind_for n) ≤ n) (λ few is. fits Node4 is two) (λ past few is. fits Node16 is past) (λ more few is. fits Node48 is more) (λ all is. fits Node256 is all)

-- where a node has space for one child more, its kind is still the smallest for that many
pub kind-stays : (n : ℕ) → n < most_children (kind_for n) → kind_for (n + 1) ≡ kind_for n
kind-stays n room =
    by_kind n (kind_for (n + 1) ≡ kind_for n)
    (λ few is. let less : n < 4 = rw is at room in kind-4 (n + 1) (omega (arith, less)) ∙ sym is)
    (λ past few is. let less : n < 16 = rw is at room in kind-16 (n + 1) (omega (arith, past)) (omega (arith, less)) ∙ sym is)
    (λ more few is. let less : n < 48 = rw is at room in kind-48 (n + 1) (omega (arith, more)) (omega (arith, less)) ∙ sym is)
    (λ all is. kind-256 (n + 1) (omega (arith, all)) ∙ sym is)

-- and where it is full, the next kind is
pub kind-grows : (n : ℕ) → n ≡ most_children (kind_for n) → n < 256 → kind_for (n + 1) ≡ grown_kind (kind_for n)
kind-grows n full few =
    by_kind n (kind_for (n + 1) ≡ grown_kind (kind_for n))
    (λ four is. let same : n ≡ 4 = full ∙ ap most_children is in kind-16 (n + 1) (omega (arith, same)) (omega (arith, same)) ∙ sym (ap grown_kind is))
    (λ past sixteen is. let same : n ≡ 16 = full ∙ ap most_children is in kind-48 (n + 1) (omega (arith, same)) (omega (arith, same)) ∙ sym (ap grown_kind is))
    (λ more many is. let same : n ≡ 48 = full ∙ ap most_children is in kind-256 (n + 1) (omega (arith, same)) ∙ sym (ap grown_kind is))
    (λ all is. let same : n ≡ 256 = full ∙ ap most_children is in absurd (omega (arith, same, few)))

-- where a node had more than the fewest children of its kind, the kind is still the smallest for one less
pub kind-lasts : (n : ℕ) (kind : NodeType) → kind ≡ kind_for (n + 1) → least_children kind < n + 1 → kind ≡ kind_for n
kind-lasts n kind is many =
    by_kind (n + 1) (kind ≡ kind_for n)
    (λ few now. is ∙ now ∙ sym (kind-4 n (omega (arith, few))))
    (λ past few now. let same = is ∙ now in let more : 5 < n + 1 = rw same at many in same ∙ sym (kind-16 n (omega (arith, more)) (omega (arith, few))))
    (λ further few now. let same = is ∙ now in let more : 17 < n + 1 = rw same at many in same ∙ sym (kind-48 n (omega (arith, more)) (omega (arith, few))))
    (λ all now. let same = is ∙ now in let more : 49 < n + 1 = rw same at many in same ∙ sym (kind-256 n (omega (arith, more))))

-- and where it had the fewest, the next smaller kind is
pub kind-shrinks : (n : ℕ) (kind : NodeType) → 2 ≤ n → kind ≡ kind_for (n + 1) → n + 1 ≡ least_children kind → shrunk_kind kind ≡ kind_for n
kind-shrinks n kind two is least =
    by_kind (n + 1) (shrunk_kind kind ≡ kind_for n)
    (λ few now. let has = least ∙ ap least_children (is ∙ now) in absurd (omega (arith, two, has)))
    (λ past few now. let same = is ∙ now in let has = least ∙ ap least_children same in ap shrunk_kind same ∙ sym (kind-4 n (omega (arith, has))))
    (λ further few now. let same = is ∙ now in let has = least ∙ ap least_children same in ap shrunk_kind same ∙ sym (kind-16 n (omega (arith, has)) (omega (arith, has))))
    (λ all now. let same = is ∙ now in let has = least ∙ ap least_children same in ap shrunk_kind same ∙ sym (kind-48 n (omega (arith, has)) (omega (arith, has))))
