-- What a link that was served at a desk is owed, by the history of the session and by what is left of the link.
use Rattle.std.specs.Prelude.{◌≡◌, ℕ, List, [], Option, Some, None}
use Rattle.std.specs.Str.{chars}
use Rattle.key_names.specs.declared.key.Key.{Key}
use Rattle.program_words.specs.Files.{edit_keys}
use Rattle.session_turns.specs.Growth.{Begins}
use Rattle.client_links.specs.Wires.{Wire, IsFresh, TellsNoMore}
use Rattle.session_desk.specs.Histories.{Met}
use Rattle.session_desk.specs.Tokens.{Home, PassView, IsOf, IsSamePass}
use Rattle.session_turns.specs.Histories.{own}
use Rattle.session_events.specs.declared.event.Entry.{Entry}
use Rattle.session_events.specs.Meaning.{rules}
use Rattle.session_events.specs.Seats.{Seated}
use Rattle.json_ui.specs.Requests.{read_request}
use Rattle.session_lines.specs.Serving.{service}
use Rattle.link_lines.specs.declared.ended.Ended.{Ended}
use Rattle.link_lines.specs.Drawings.{DrawsOnlyMissed}
use Rattle.link_lines.specs.Endings.{WasServedOver, EndsFor, HasLeftAt, NeverCame}
use Rattle.kak_engine.specs.Steps.{given_by, crowded_by, parting_by}
use Rattle.engine_desk.specs.Sharing.{Frame}

-- the keys that are struck before the first drawing: those that open the file, where one is named
abbrev pub opening_keys : Option (List ℕ) → List Key
opening_keys (Some name) = edit_keys (chars name)
opening_keys None = []

-- the seat of a client at a session where others play too, by the entries and the mark that were seen there
abbrev pub seat_by : ℕ → ℕ → List Entry → Option ℕ → Seated
seat_by limit who seen mark = record { number = who; limit = limit; mark = mark; seen = seen; others = None }

-- A link was served under a number, with the file that its client opened first, if one was named. By the entries and the mark
-- that had been seen when that ended: how it ended, why, whether its client has left, and what stands then in the history and
-- went over the link, from its coming to what is left of it.
pub record ServedLink (limit : ℕ) (file : Option (List ℕ)) (who : ℕ) (seen : List Entry) (mark : Option ℕ) (ended : Ended) (came closed : Wire) : Type 0 where
  pub no_more : TellsNoMore came closed
  pub served : WasServedOver (service given_by read_request (opening_keys file)) who seen came closed ended
  pub left : HasLeftAt given_by parting_by ended who seen
  pub drawn : DrawsOnlyMissed who seen
  pub cause : EndsFor given_by crowded_by parting_by ended (seat_by limit who seen mark) came closed

-- The row of a link that was served, by a history and its mark: all that serving says of it holds by a front of the history,
-- behind which its client has no entry, and by a mark that is none or this one. The link had just come.
pub record ServedRow (limit : ℕ) (file : Option (List ℕ)) (who : ℕ) (history : List Entry) (mark : Option ℕ) (ended : Ended) (came closed : Wire) : Type 0 where
  pub front : List Entry
  pub met : Option ℕ
  pub begins : Begins history front
  pub alone : own (rules given_by) who begins.0 ≡ []
  pub marked : Met met mark
  pub fresh : IsFresh came
  pub link : ServedLink limit file who front met ended came closed

-- A link may be served at a desk under a pass: the pass is of this desk and has no entry, and the link has just come.
pub record IsLinkReady (home : Home Frame) (pass : PassView Entry Frame) (link : Wire) : Type 0 where
  pub own : IsOf pass.place home
  pub new : NeverCame given_by pass.number pass.seen
  pub fresh : IsFresh link

-- A link that had just come was served under a pass, which is given back with all that it had seen before and more, and was
-- closed.
pub record ServesLink (limit : ℕ) (file : Option (List ℕ)) (pass : PassView Entry Frame) (ended : Ended) (given : PassView Entry Frame) (came closed : Wire) : Type 0 where
  pub same : IsSamePass pass given
  pub sees : Begins given.seen pass.seen
  pub fresh : IsFresh came
  pub link : ServedLink limit file pass.number given.seen given.mark ended came closed
