-- What lines of the input say.
use Rattle.std.proofs.Common.{◌≡◌, ◌≢◌, ◌∙◌, inl, inr, ℕ, ℤ, List, ◌∷◌, ◌++◌, sym, ap, subst, arith, get_or}
use Rattle.std.specs.Prelude.{codes, Result, Ok, Err, OnErr}
use Rattle.std.specs.declared.net.Ipv6Addr.{Ipv6Addr}
use Rattle.program_lines.specs.Lines.{HasNo, IsCutAt}
use Rattle.program_lines.proofs.Cuts.{same_cut, cut_has_one}
use Rattle.index.specs.declared.query.Query.{Query}
use Rattle.index.specs.declared.query.Query.TheVariants.{Host, Time, Hosts, First, Last, Count, CountHost}
use Rattle.index.specs.Fields.{IsAddress, IsTime}
use Rattle.index.specs.Queries.{AreBounds, AskIndexFor, HasBounds, HasNoWord, SayHost}

-- what is so anyway, is so of an error
pub anyway : {X E : Type 0} {Q : Type 0} (result : Result X E) → Q → OnErr result Q
anyway (Ok x) so = tt
anyway (Err e) so = so

-- what follows of that an error says
pub on_err : {X E : Type 0} {P Q : Type 0} (result : Result X E) → (P → Q) → OnErr result P → OnErr result Q
on_err (Ok x) more so = tt
on_err (Err e) more so = more so

-- what is no pair of bounds
module _ (text rest : List ℕ) (begins : text ≡ codes "from " ++ rest) where
  rest_is : (first last : List ℕ) → text ≡ codes "from " ++ (first ++ (codes " to " ++ last)) → rest ≡ first ++ (codes " to " ++ last)
  rest_is first last is =
      let both : codes "from " ++ rest ≡ codes "from " ++ (first ++ (codes " to " ++ last)) = sym begins ∙ is in
      cc

  pub no_space : HasNo 32 rest → (first last : List ℕ) → HasBounds text first last → ⊥
  no_space none first last (is, none_first) = cut_has_one 32 first (codes "to " ++ last) (subst (HasNo 32) (rest_is first last is) none)

  module _ (first next : List ℕ) (cut : IsCutAt 32 rest first next) where
    parts_are : (other last : List ℕ) → text ≡ codes "from " ++ (other ++ (codes " to " ++ last)) → HasNo 32 other → (first ≡ other) × (next ≡ codes "to " ++ last)
    parts_are other last is none = same_cut 32 first other next (codes "to " ++ last) cut.1 none (sym cut.0 ∙ rest_is other last is)

    pub no_last : ((last : List ℕ) → next ≢ codes "to " ++ last) → (other last : List ℕ) → HasBounds text other last → ⊥
    no_last refused other last (is, none) = refused last (parts_are other last is none).1

    module _ (last : List ℕ) (ends : next ≡ codes "to " ++ last) where
      pub no_times : ((from to : ℤ) → IsTime first from → IsTime last to → ⊥) → (from to : ℤ) → AreBounds text from to → ⊥
      no_times refused from to (other, later, (is, none), other_is, later_is) =
          let same = parts_are other later is none in
          let both : codes "to " ++ last ≡ codes "to " ++ later = sym ends ∙ same.1 in
          let last_is : last ≡ later = cc in
          refused from to (subst (λ t. IsTime t from) (sym same.0) other_is) (subst (λ t. IsTime t to) (sym last_is) later_is)

      pub has_bounds : HasBounds text first last
      has_bounds = (begins ∙ ap (λ r. codes "from " ++ r) (cut.0 ∙ ap (λ n. first ++ 32 ∷ n) ends), cut.1)

-- where the words are no bounds, there are no times
pub no_bounds : (text : List ℕ) → ((first last : List ℕ) → HasBounds text first last → ⊥) → (from to : ℤ) → AreBounds text from to → ⊥
no_bounds text none from to (first, last, has, first_is, last_is) = none first last has

-- what is no host
pub no_address : (text : List ℕ) → HasNo 32 text → ((address : Ipv6Addr) → IsAddress text address → ⊥) → (address : Ipv6Addr) (from to : ℤ) → SayHost text address from to → ⊥
no_address text none refused address from to (inl alone) = refused address alone.1
no_address text none refused address from to (inr (host, bounds, is, none_host, host_is, are)) = cut_has_one 32 host bounds (subst (HasNo 32) is none)

pub no_host : (text host bounds : List ℕ) → IsCutAt 32 text host bounds → ((address : Ipv6Addr) (from to : ℤ) → IsAddress host address → AreBounds bounds from to → ⊥) → (address : Ipv6Addr) (from to : ℤ) → SayHost text address from to → ⊥
no_host text host bounds cut refused address from to (inl alone) = cut_has_one 32 host bounds (subst (HasNo 32) cut.0 alone.0)
no_host text host bounds cut refused address from to (inr (other, later, is, none, is_address, are)) =
    let same = same_cut 32 host other bounds later cut.1 none (sym cut.0 ∙ is) in
    refused address from to (subst (λ h. IsAddress h address) (sym same.0) is_address) (subst (λ b. AreBounds b from to) (sym same.1) are)

-- texts that differ at a place are not the same
differ_at : (place : ℕ) (xs ys : List ℕ) → get_or xs place 0 ≢ get_or ys place 0 → xs ≡ ys → ⊥
differ_at place xs ys differ same = differ (ap (λ text. get_or text place 0) same)

-- a line that begins so is no other query
pub no_host_query : (line rest : List ℕ) → line ≡ codes "host " ++ rest → ((address : Ipv6Addr) (from to : ℤ) → SayHost rest address from to → ⊥) → (query : Query) → AskIndexFor line query → ⊥
no_host_query line rest begins refused (Host address from to) (text, is, said) =
    let both : codes "host " ++ rest ≡ codes "host " ++ text = sym begins ∙ is in
    let same : rest ≡ text = cc in
    refused address from to (subst (λ t. SayHost t address from to) (sym same) said)
no_host_query line rest begins refused (Time from to) (text, is, said) = differ_at 0 (codes "host " ++ rest) (codes "time " ++ text) (omega arith) (sym begins ∙ is)
no_host_query line rest begins refused Hosts is = differ_at 4 (codes "host " ++ rest) (codes "hosts") (omega arith) (sym begins ∙ is)
no_host_query line rest begins refused First is = differ_at 0 (codes "host " ++ rest) (codes "first") (omega arith) (sym begins ∙ is)
no_host_query line rest begins refused Last is = differ_at 0 (codes "host " ++ rest) (codes "last") (omega arith) (sym begins ∙ is)
no_host_query line rest begins refused Count is = differ_at 0 (codes "host " ++ rest) (codes "count") (omega arith) (sym begins ∙ is)
no_host_query line rest begins refused (CountHost address from to) (text, is, said) = differ_at 0 (codes "host " ++ rest) (codes "count " ++ text) (omega arith) (sym begins ∙ is)

pub no_time_query : (line rest : List ℕ) → line ≡ codes "time " ++ rest → ((from to : ℤ) → AreBounds rest from to → ⊥) → (query : Query) → AskIndexFor line query → ⊥
no_time_query line rest begins refused (Host address from to) (text, is, said) = differ_at 0 (codes "time " ++ rest) (codes "host " ++ text) (omega arith) (sym begins ∙ is)
no_time_query line rest begins refused (Time from to) (text, is, said) =
    let both : codes "time " ++ rest ≡ codes "time " ++ text = sym begins ∙ is in
    let same : rest ≡ text = cc in
    refused from to (subst (λ t. AreBounds t from to) (sym same) said)
no_time_query line rest begins refused Hosts is = differ_at 0 (codes "time " ++ rest) (codes "hosts") (omega arith) (sym begins ∙ is)
no_time_query line rest begins refused First is = differ_at 0 (codes "time " ++ rest) (codes "first") (omega arith) (sym begins ∙ is)
no_time_query line rest begins refused Last is = differ_at 0 (codes "time " ++ rest) (codes "last") (omega arith) (sym begins ∙ is)
no_time_query line rest begins refused Count is = differ_at 0 (codes "time " ++ rest) (codes "count") (omega arith) (sym begins ∙ is)
no_time_query line rest begins refused (CountHost address from to) (text, is, said) = differ_at 0 (codes "time " ++ rest) (codes "count " ++ text) (omega arith) (sym begins ∙ is)

pub no_count_query : (line rest : List ℕ) → line ≡ codes "count " ++ rest → ((address : Ipv6Addr) (from to : ℤ) → SayHost rest address from to → ⊥) → (query : Query) → AskIndexFor line query → ⊥
no_count_query line rest begins refused (Host address from to) (text, is, said) = differ_at 0 (codes "count " ++ rest) (codes "host " ++ text) (omega arith) (sym begins ∙ is)
no_count_query line rest begins refused (Time from to) (text, is, said) = differ_at 0 (codes "count " ++ rest) (codes "time " ++ text) (omega arith) (sym begins ∙ is)
no_count_query line rest begins refused Hosts is = differ_at 0 (codes "count " ++ rest) (codes "hosts") (omega arith) (sym begins ∙ is)
no_count_query line rest begins refused First is = differ_at 0 (codes "count " ++ rest) (codes "first") (omega arith) (sym begins ∙ is)
no_count_query line rest begins refused Last is = differ_at 0 (codes "count " ++ rest) (codes "last") (omega arith) (sym begins ∙ is)
no_count_query line rest begins refused Count is = differ_at 5 (codes "count " ++ rest) (codes "count") (omega arith) (sym begins ∙ is)
no_count_query line rest begins refused (CountHost address from to) (text, is, said) =
    let both : codes "count " ++ rest ≡ codes "count " ++ text = sym begins ∙ is in
    let same : rest ≡ text = cc in
    refused address from to (subst (λ t. SayHost t address from to) (sym same) said)

-- nor is a line that has none of the words
pub no_query : (line : List ℕ) → HasNoWord line → (query : Query) → AskIndexFor line query → ⊥
no_query line none (Host address from to) (text, is, said) = none.0 text is
no_query line none (Time from to) (text, is, said) = none.1 text is
no_query line none Hosts is = none.3 is
no_query line none First is = none.4 is
no_query line none Last is = none.5 is
no_query line none Count is = none.6 is
no_query line none (CountHost address from to) (text, is, said) = none.2 text is
