-- The lines of a table that are read, and what the next one adds.
use Rattle.std.proofs.Common.{◌≡◌, ◌≢◌, ◌∙◌, ℕ, ◌+◌, ◌-◌, ◌<◌, ◌≤◌, true, false, List, [], ◌∷◌, ◌++◌, All, Contains, Some, get_or, length, refl, sym, ap, subst, arith, append_assoc, append-nil, inl, inr}
use Rattle.std.specs.Prelude.{not}
use Rattle.std.proofs.lemmas.List.{length-append, get_or_append_left}
use Rattle.std.proofs.lemmas.List.Elements.{All-push, All-nil, All-contains, filter-append}
use Rattle.std.proofs.lemmas.List.Quantifiers.{all_pairs_push}
use Rattle.program_lines.specs.declared.failure.Source.TheVariants.{File}
use Rattle.program_lines.specs.declared.line_fault.LineFault.{LineFault}
use Rattle.program_lines.specs.Lines.{lines_of, line_at, SayAll, SayLine}
use Rattle.program_lines.proofs.Replies.{all_said}
use Rattle.program_lines.proofs.SaidLines.{get_or-after, said_append}
use Rattle.art_routes.specs.Networks.{Block}
use Rattle.art_routes.specs.Tables.{put_route, put_routes, route_value}
use Rattle.art_routes.proofs.CallLaws.{none_among, one_among, put_last}
use Rattle.routes.specs.declared.fault.Fault.{Fault}
use Rattle.routes.specs.declared.route.Route.{Route}
use Rattle.routes.specs.Lines.{is_comment, without_comments, SayRouteTo, SayRoute}
use Rattle.routes.specs.Tables.{AreDistinctRoutes, AreRoutes, IsRouteAgain}
use Rattle.routes.specs.Reading.{AddsRoute, IsNextFault, IsRouteTable}
use Rattle.routes.specs.Replies.{IsFaultAfter, IsFirstBadRoute}

-- the route has the number of its line
pub record IsNumbered (lines : List (List ℕ)) (route : Block × Route) : Type 0 where
  pub from_one : 1 ≤ route.1.number
  pub within : route.1.number ≤ length lines
  pub at : line_at lines route.1.number ≡ route.1.line.now

-- the table is that of the routes of these lines, each with the number of its line
pub record IsRead (lines : List (List ℕ)) (table : List (Block × Route)) : Type 0 where
  pub routes : List (Block × Route)
  pub are_routes : AreRoutes lines routes
  pub put : table ≡ put_routes [] routes
  pub numbered : All (IsNumbered lines) routes

none_distinct : AreDistinctRoutes []
none_distinct i j d before within = absurd (omega (arith, within))

none_read : IsRead [] []
none_read = record {
  routes = [];
  are_routes = (tt, none_distinct);
  put = refl;
  numbered = All-nil (IsNumbered []);
}

-- a line has a place among more lines
numbered_still : (lines : List (List ℕ)) (line : List ℕ) (route : Block × Route) → IsNumbered lines route → IsNumbered (lines ++ line ∷ []) route
numbered_still lines line route is = record {
  from_one = is.from_one;
  within = omega (arith, is.within, length-append lines (line ∷ []));
  at = get_or_append_left lines (line ∷ []) [] (route.1.number - 1) (omega (arith, is.from_one, is.within)) ∙ is.at;
}

-- the last line
numbered_last : (lines : List (List ℕ)) (line : List ℕ) (route : Block × Route) → route.1.line.now ≡ line → route.1.number ≡ length lines + 1 → IsNumbered (lines ++ line ∷ []) route
numbered_last lines line route is_line is_number =
    let place : route.1.number - 1 ≡ length lines = omega (arith, is_number) in
    record {
      from_one = omega (arith, is_number);
      within = omega (arith, is_number, length-append lines (line ∷ []));
      at = ap (λ k. get_or (lines ++ line ∷ []) k []) place ∙ get_or-after lines [] line [] ∙ sym is_line;
    }

-- what a line adds to those that are no comments
without_last : (lines : List (List ℕ)) (line : List ℕ) → without_comments (lines ++ line ∷ []) ≡ without_comments lines ++ without_comments (line ∷ [])
without_last lines line = filter-append (λ this. not (is_comment this)) lines (line ∷ [])

comment_alone : (line : List ℕ) → is_comment line ≡ true → without_comments (line ∷ []) ≡ []
comment_alone line test = rw test refl

other_alone : (line : List ℕ) → is_comment line ≡ false → without_comments (line ∷ []) ≡ line ∷ []
other_alone line test = rw test refl

-- each route is its own line
abbrev IsOwnLine : Block × Route → Type 0
IsOwnLine route = SayRouteTo route.1.line.now route.0

own_line : (line : List ℕ) (route : Block × Route) → SayLine SayRoute line route → IsOwnLine route
own_line line route said = subst (λ text. SayRouteTo text route.0) (sym said.1.0) said.1.1

module _ (lines : List (List ℕ)) (table : List (Block × Route)) (read : IsRead lines table) (line : List ℕ) where
  comment_read : is_comment line ≡ true → IsRead (lines ++ line ∷ []) table
  comment_read test =
      let same : without_comments (lines ++ line ∷ []) ≡ without_comments lines = without_last lines line ∙ ap (λ more. without_comments lines ++ more) (comment_alone line test) ∙ append-nil (without_comments lines) in
      record {
        routes = read.routes;
        are_routes = (subst (λ these. SayAll (SayLine SayRoute) these read.routes) (sym same) read.are_routes.0, read.are_routes.1);
        put = read.put;
        numbered = λ k d within. numbered_still lines line (get_or read.routes k d) (read.numbered k d within);
      }

  module _ (number : ℕ) (counted : number ≡ length lines + 1) where
    route_read : (longer : List (Block × Route)) → is_comment line ≡ false → AddsRoute number line table longer → IsRead (lines ++ line ∷ []) longer
    route_read longer test adds =
        let route = adds.route in
        let others : All (λ (other : Block × Route). other.0 ≢ route.0) read.routes = none_among route.0 read.routes (ap (λ these. route_value these route.0) (sym read.put) ∙ adds.none_before) in
        let cut : without_comments (lines ++ line ∷ []) ≡ without_comments lines ++ line ∷ [] = without_last lines line ∙ ap (λ more. without_comments lines ++ more) (other_alone line test) in
        let said : SayAll (SayLine SayRoute) (without_comments lines ++ line ∷ []) (read.routes ++ route ∷ []) = said_append (SayLine SayRoute) (without_comments lines) (line ∷ []) read.routes (route ∷ []) read.are_routes.0 (adds.said, tt) in
        record {
          routes = read.routes ++ route ∷ [];
          are_routes = (
            subst (λ these. SayAll (SayLine SayRoute) these (read.routes ++ route ∷ [])) (sym cut) said,
            all_pairs_push (λ (a b : Block × Route). a.0 ≢ b.0) read.routes route read.are_routes.1 others,
          );
          put = adds.put ∙ ap (λ these. put_route these route.0 route.1) read.put ∙ sym (put_last [] read.routes route);
          numbered = All-push (IsNumbered (lines ++ line ∷ [])) read.routes route (λ k d within. numbered_still lines line (get_or read.routes k d) (read.numbered k d within)) (numbered_last lines line route adds.said.1.0 (adds.numbered ∙ counted));
        }

    -- the line of the earlier route
    again : (network : Block) (earlier : Route) → SayLine SayRouteTo line network → route_value table network ≡ Some earlier → IsRouteAgain lines line earlier.number
    again network earlier said found =
        let first : Block × Route = (network, earlier) in
        let listed : Contains read.routes first = one_among network read.routes earlier (ap (λ these. route_value these network) (sym read.put) ∙ found) in
        let place = All-contains (IsNumbered lines) read.routes first read.numbered listed in
        let own = All-contains IsOwnLine read.routes first (all_said (SayLine SayRoute) IsOwnLine own_line (without_comments lines) read.routes read.are_routes.0) listed in
        (place.from_one, place.within, (network, subst (λ text. SayRouteTo text network) (sym place.at) own, said))

    -- the fault of the line is one after these lines
    fault_after : (fault : LineFault Fault) → IsNextFault line table fault → IsFaultAfter lines line fault
    fault_after fault (inl is) = inl is
    fault_after fault (inr (network, earlier, said, found, is)) = inr (earlier.number, again network earlier said found, is)

-- the lines before the rest are read, as many as this number
pub record IsReadTo (file rest : List ℕ) (number : ℕ) (table : List (Block × Route)) : Type 0 where
  pub before : List (List ℕ)
  pub whole : lines_of file ≡ before ++ lines_of rest
  pub read : IsRead before table
  pub counted : number ≡ length before
  pub room : number + length rest ≤ length file

pub start_read : (file : List ℕ) (table : List (Block × Route)) → table ≡ [] → IsReadTo file file 0 table
start_read file table none = record {
  before = [];
  whole = refl;
  read = rw none none_read;
  counted = refl;
  room = omega arith;
}

module _ (file rest : List ℕ) (number : ℕ) (table : List (Block × Route)) (so_far : IsReadTo file rest number table) where
  pub all_read : rest ≡ [] → IsRouteTable file table
  all_read none =
      let all : so_far.before ≡ lines_of file = sym (so_far.whole ∙ ap (λ bytes. so_far.before ++ lines_of bytes) none ∙ append-nil so_far.before) in
      (so_far.read.routes, subst (λ lines. AreRoutes lines so_far.read.routes) all so_far.read.are_routes, so_far.read.put)

  module _ (line after : List ℕ) (cut : lines_of rest ≡ line ∷ lines_of after) where
    here : lines_of file ≡ so_far.before ++ line ∷ lines_of after
    here = so_far.whole ∙ ap (λ lines. so_far.before ++ lines) cut

    counted_next : number + 1 ≡ length so_far.before + 1
    counted_next = ap (λ n. n + 1) so_far.counted

    next_read : (longer : List (Block × Route)) → length after < length rest → IsRead (so_far.before ++ line ∷ []) longer → IsReadTo file after (number + 1) longer
    next_read longer shorter read = record {
      before = so_far.before ++ line ∷ [];
      whole = rw append_assoc here;
      read = read;
      counted = omega (arith, so_far.counted, length-append so_far.before (line ∷ []));
      room = omega (arith, so_far.room, shorter);
    }

    pub next_comment : length after < length rest → is_comment line ≡ true → IsReadTo file after (number + 1) table
    next_comment shorter test = next_read table shorter (comment_read so_far.before table so_far.read line test)

    pub next_route : (longer : List (Block × Route)) → length after < length rest → is_comment line ≡ false → AddsRoute (number + 1) line table longer → IsReadTo file after (number + 1) longer
    next_route longer shorter test adds =
        next_read longer shorter (route_read so_far.before table so_far.read line (number + 1) counted_next longer test adds)

    pub next_bad : is_comment line ≡ false → (fault : LineFault Fault) → IsNextFault line table fault → IsFirstBadRoute file (record { source = File; number = number + 1; fault = fault })
    next_bad test fault is = (
      refl,
      (so_far.before, lines_of after, line, so_far.read.routes, here, counted_next, so_far.read.are_routes, test, fault_after so_far.before table so_far.read line (number + 1) counted_next fault is),
    )
