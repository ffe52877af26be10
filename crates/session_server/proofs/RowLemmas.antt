-- Rows of served links: how they come of what a serving gives, and that they stay.
use Rattle.std.proofs.Common.{◌≡◌, ℕ, List, [], ◌++◌, Option, sym, ap, ◌∙◌, subst, append_assoc}
use Rattle.session_turns.specs.Growth.{Begins}
use Rattle.client_links.specs.Wires.{Wire, IsFresh, TellsNoMore}
use Rattle.session_desk.specs.Histories.{Met}
use Rattle.session_desk.specs.Tokens.{PassView, IsSamePass}
use Rattle.session_desk.proofs.HistoryLemmas.{met_through}
use Rattle.session_turns.specs.Histories.{own}
use Rattle.session_turns.proofs.HistoryLemmas.{own-append}
use Rattle.session_events.specs.declared.event.Entry.{Entry}
use Rattle.session_events.specs.Meaning.{rules}
use Rattle.json_ui.specs.Requests.{read_request}
use Rattle.session_lines.specs.Serving.{service}
use Rattle.link_lines.specs.declared.ended.Ended.{Ended}
use Rattle.link_lines.specs.Drawings.{DrawsOnlyMissed}
use Rattle.link_lines.specs.Endings.{WasServedOver, HasLeftAt, EndsFor}
use Rattle.link_lines.proofs.LaterLemmas.{over-later}
use Rattle.link_lines.proofs.DrawingLemmas.{others-draw}
use Rattle.kak_engine.specs.Steps.{given_by, crowded_by, parting_by}
use Rattle.engine_desk.specs.Sharing.{Frame}
use Rattle.session_server.specs.Rows.{opening_keys, seat_by, ServedLink, ServedRow, ServesLink}

-- what the serving of a link and its closing give
pub link-served : (limit : ℕ) (file : Option (List ℕ)) (pass given : PassView Entry Frame) (e : Ended) (came now closed : Wire) → IsFresh came → IsSamePass pass given → Begins given.seen pass.seen → closed ≡ now → TellsNoMore came now
    → WasServedOver (service given_by read_request (opening_keys file)) pass.number given.seen came now e → HasLeftAt given_by parting_by e pass.number given.seen → DrawsOnlyMissed pass.number given.seen → EndsFor given_by crowded_by parting_by e (seat_by limit pass.number given.seen given.mark) came now
    → ServesLink limit file pass e given came closed
link-served limit file pass given e came now closed fresh same sees is tells served left drawn cause = record {
  same = same;
  sees = sees;
  fresh = fresh;
  link = subst (λ (w : Wire). ServedLink limit file pass.number given.seen given.mark e came w) (sym is) (record { no_more = tells; served = served; left = left; drawn = drawn; cause = cause });
}

-- entries of others behind entries of others
own-none : (who : ℕ) (a b : List Entry) → own (rules given_by) who a ≡ [] → own (rules given_by) who b ≡ [] → own (rules given_by) who (a ++ b) ≡ []
own-none who a b first second = own-append (rules given_by) who a b ∙ ap (λ q. q ++ own (rules given_by) who b) first ∙ second

-- the front of a row is the front of every later history
pub row-later : (limit : ℕ) (file : Option (List ℕ)) (who : ℕ) (h more : List Entry) (mark later : Option ℕ) (e : Ended) (came closed : Wire) → own (rules given_by) who more ≡ [] → Met mark later → ServedRow limit file who h mark e came closed → ServedRow limit file who (h ++ more) later e came closed
row-later limit file who h more mark later e came closed none met r = record {
  front = r.front;
  met = r.met;
  begins = (r.begins.0 ++ more, ap (λ q. q ++ more) r.begins.1 ∙ append_assoc r.front r.begins.0 more);
  alone = own-none who r.begins.0 more r.alone none;
  marked = met_through r.met mark later r.marked met;
  fresh = r.fresh;
  link = r.link;
}

-- what was served and drawn, by the whole history
pub row-served : (limit : ℕ) (file : Option (List ℕ)) (who : ℕ) (h : List Entry) (mark : Option ℕ) (e : Ended) (came closed : Wire) → ServedRow limit file who h mark e came closed → WasServedOver (service given_by read_request (opening_keys file)) who h came closed e
row-served limit file who h mark e came closed r =
    subst (λ (q : List Entry). WasServedOver (service given_by read_request (opening_keys file)) who q came closed e) (sym r.begins.1)
    (over-later (service given_by read_request (opening_keys file)) who r.front r.begins.0 came closed e r.alone r.link.served)

pub row-drawn : (limit : ℕ) (file : Option (List ℕ)) (who : ℕ) (h : List Entry) (mark : Option ℕ) (e : Ended) (came closed : Wire) → ServedRow limit file who h mark e came closed → DrawsOnlyMissed who h
row-drawn limit file who h mark e came closed r =
    subst (λ (q : List Entry). DrawsOnlyMissed who q) (sym r.begins.1) (others-draw given_by who r.front r.begins.0 r.alone r.link.drawn)
