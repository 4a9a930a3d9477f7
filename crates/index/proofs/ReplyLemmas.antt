-- What queries print.
use Rattle.std.proofs.Common.{◌≡◌, ◌∙◌, ℕ, ◌-◌, Bool, List, ◌++◌, length, Option, Some, None, refl, sym, ap, subst}
use Rattle.std.specs.Prelude.{slice_get, Result, Ok, Err, IfOk, IfNone}
use Rattle.std.specs.Borrow.{Bor}
use Rattle.std.specs.Option.{option_map}
use Rattle.std.specs.declared.net.Ipv6Addr.{Ipv6Addr}
use Rattle.std.proofs.lemmas.List.{length-map}
use Rattle.std.proofs.lemmas.Option.{slice_get-map}
use Rattle.index.specs.declared.query.Query.{Query}
use Rattle.index.specs.declared.query.Query.TheVariants.{First, Last}
use Rattle.index.specs.declared.rows.Row.{Row}
use Rattle.index.specs.Keys.{IsIndexTable, RowKey}
use Rattle.index.specs.Queries.{SayIndexQuery}
use Rattle.index.specs.Replies.{HasIndexReply, IsIndexReply, end_line}
use Rattle.index.specs.Searches.{AppendsIndexReply}
use Rattle.index.proofs.EntryLemmas.{values_of}

-- a reply to a query that is known
pub appended : (rows : List Row) (query this : Query) (old new text : List ℕ) → query ≡ this → IsIndexReply rows this text → new ≡ old ++ text → AppendsIndexReply rows query old new
appended rows query this old new text is reply pushed = (text, subst (λ q. IsIndexReply rows q text) (sym is) reply, pushed)

module _ {K : Type 0} (entries : List (K × Row)) where
  abbrev pub row_of : K × Row → Row
  row_of entry = entry.1

  abbrev shown_entry : Bor K × Bor Row → K × Row
  shown_entry e = (e.0.now, e.1.now)

  abbrev shown_row : Bor K × Bor Row → Row
  shown_row e = e.1.now

  abbrev address_of : Row → Ipv6Addr
  address_of row = row.reading.address

  -- the row at a place
  pub row_at : (o : Option (Bor K × Bor Row)) (n : ℕ) → option_map shown_entry o ≡ slice_get entries n → option_map shown_row o ≡ slice_get (values_of entries) n
  row_at o n is = both o ∙ ap (option_map row_of) is ∙ sym (slice_get-map row_of entries n)
    where
      both : (o : Option (Bor K × Bor Row)) → option_map shown_row o ≡ option_map row_of (option_map shown_entry o)
      both None = refl
      both (Some e) = refl

  -- the host of the first row
  pub first_host : (rows : List Row) (o : Option (Bor K × Bor Row)) (result : Option Ipv6Addr) → result ≡ option_map (λ e. e.1.now.reading.address) o → option_map shown_entry o ≡ slice_get entries 0 → values_of entries ≡ rows → result ≡ option_map (λ row. row.reading.address) (slice_get rows 0)
  first_host rows o result is first same = is ∙ both o ∙ ap (option_map address_of) (row_at o 0 first) ∙ ap (λ r. option_map address_of (slice_get r 0)) same
    where
      both : (o : Option (Bor K × Bor Row)) → option_map (λ e. e.1.now.reading.address) o ≡ option_map (λ row. row.reading.address) (option_map shown_row o)
      both None = refl
      both (Some e) = refl

  module _ (query : Query) (old new : List ℕ) (o : Option (Bor K × Bor Row)) (pushed : new ≡ old ++ end_line (option_map shown_row o)) where
    pub reply_first : query ≡ First → option_map shown_entry o ≡ slice_get entries 0 → AppendsIndexReply (values_of entries) query old new
    reply_first is first = appended (values_of entries) query First old new (end_line (slice_get (values_of entries) 0)) is refl (pushed ∙ ap (λ e. old ++ end_line e) (row_at o 0 first))

    pub reply_last : query ≡ Last → option_map shown_entry o ≡ slice_get entries (length entries - 1) → AppendsIndexReply (values_of entries) query old new
    reply_last is last =
        let place = ap (λ n. slice_get (values_of entries) (n - 1)) (sym (length-map entries row_of)) in
        appended (values_of entries) query Last old new (end_line (slice_get (values_of entries) (length (values_of entries) - 1))) is refl (pushed ∙ ap (λ e. old ++ end_line e) (row_at o (length entries - 1) last ∙ place))

-- a reply to a line, by the file of the rows
pub reply_said : {E F : Type 0} (has_header : Bool) (entries : List (RowKey × Row)) (given old new : List ℕ) (result : Result (Option F) E) → IfOk result (λ fault. IfNone fault ((query : Query) × SayIndexQuery given query × AppendsIndexReply (values_of entries) query old new))
    → IfOk result (λ fault. IfNone fault ((file : List ℕ) → IsIndexTable has_header file entries → (shown : List ℕ) × HasIndexReply has_header file given shown × (new ≡ old ++ shown)))
reply_said has_header entries given old new (Err e) so = tt
reply_said has_header entries given old new (Ok (Some fault)) so = tt
reply_said has_header entries given old new (Ok None) (query, said, (shown, reply, is)) = λ file table. (shown, (table.0, values_of entries, query, table.1, table.2, said, reply), is)
