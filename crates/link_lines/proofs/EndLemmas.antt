-- From what was played over a link to what stands when its serving has ended.
use Rattle.std.proofs.Common.{◌≡◌, ℕ, Bool, true, false, List, [], ◌∷◌, ◌++◌, Ok, Err, refl, sym, ◌∙◌, subst}
use Rattle.std.specs.declared.result.Result.{Result}
use Rattle.std.specs.Io.KnownBytes.{Appends}
use Rattle.session_turns.specs.Histories.{own}
use Rattle.session_turns.specs.Turns.{Opening}
use Rattle.session_events.specs.declared.event.Event.TheVariants.{Leave}
use Rattle.session_events.specs.declared.event.Entry.{Entry}
use Rattle.session_events.specs.Entries.{entry_with}
use Rattle.session_events.specs.Meaning.{Gives, rules}
use Rattle.session_events.specs.Seats.{Seated, IsSameSeat, Sees}
use Rattle.client_links.specs.Wires.{Wire}
use Rattle.line_reading.specs.Hearing.{inlet_of}
use Rattle.session_lines.specs.declared.playing.Stop.{Stop}
use Rattle.session_lines.specs.declared.playing.Stop.TheVariants as stop
use Rattle.session_lines.specs.declared.reading.InputEnd.{InputEnd}
use Rattle.session_lines.specs.declared.reading.InputEnd.TheVariants as input
use Rattle.session_lines.specs.Connections.{is_unwritten, Plays, WasServed}
use Rattle.session_lines.specs.Serving.{Service, HasGone}
use Rattle.session_lines.specs.Stops.{IsLoss}
use Rattle.session_lines.proofs.ConnectionLemmas.{all-left, leaving-lost, unwritten-served}
use Rattle.link_lines.specs.declared.ended.Ended.{Ended}
use Rattle.link_lines.specs.declared.ended.Ended.TheVariants.{Left, Closed, LinkRead, LinkWrite, InputFull, HistoryFull, Broken, NoMemory}
use Rattle.link_lines.specs.Talking.{PlaysOver}
use Rattle.link_lines.specs.Endings.{ended_of, result_of, HasParted, PartsHistory, WasServedOver}
use Rattle.link_lines.proofs.LostLemmas.{plays-lost}

-- the client by its number
pub as-who : (g : Service) (k n : ℕ) (h : List Entry) (before now : Wire) (e : Ended) → k ≡ n → WasServedOver g k h before now e → WasServedOver g n h before now e
as-who g k n h before now e same w = subst (λ m. WasServedOver g m h before now e) same w

-- what was served, and what was received meanwhile
row : (g : Service) (k : ℕ) (h front : List Entry) (before now : Wire) (e : Ended) (bytes : List ℕ) → PartsHistory g.gives e k front h → Appends before.received now.received bytes
    → (w : WasServed true g k front before.outlet now.outlet (inlet_of before) (inlet_of now) (result_of e)) × (w.bytes ≡ bytes) → WasServedOver g k h before now e
row g k h front before now e bytes parts r w = record { front = front; served = w.0; received = subst (λ bs. Appends before.received now.received bs) (sym w.1) r; parting = parts }

-- the leaving stands behind all that was played
parted : (g : Gives) (x y z : Seated) → IsSameSeat x y → HasGone g y z → HasParted g x.number y.seen z.seen
parted g x y z same e = record {
  between = e.between;
  answers = e.answers;
  behind = [];
  foreign = subst (λ n. own (rules g) n e.between ≡ []) same.number e.foreign;
  last = refl;
  stands = subst (λ n. z.seen ≡ y.seen ++ e.between ++ entry_with n Leave e.answers ∷ []) same.number e.stands;
}

-- the client left behind whatever was played
pub left-over : (r : Result InputEnd Stop) (g : Service) (x y z : Seated) (before now : Wire) → g.protocol.leaves ≡ Leave → x.seen ≡ [] → IsSameSeat x y → PlaysOver (Opening ∷ []) g x y before now r → HasGone g.gives y z → WasServedOver g x.number z.seen before now (ended_of r)
left-over (Ok input.Left) g x y z before now leaves none same p e = row g x.number z.seen z.seen before now Left p.plays.bytes refl p.received (all-left (Ok input.Left) true g x y z _ _ _ _ leaves none same refl p.plays e)
left-over (Ok input.Ended) g x y z before now leaves none same p e = row g x.number z.seen z.seen before now Closed p.plays.bytes refl p.received (all-left (Ok input.Ended) true g x y z _ _ _ _ leaves none same refl p.plays e)
left-over (Ok input.ReadFault) g x y z before now leaves none same p e = row g x.number z.seen z.seen before now LinkRead p.plays.bytes refl p.received (all-left (Ok input.ReadFault) true g x y z _ _ _ _ leaves none same refl p.plays e)
left-over (Ok input.Full) g x y z before now leaves none same p e = row g x.number z.seen z.seen before now InputFull p.plays.bytes refl p.received (all-left (Ok input.Full) true g x y z _ _ _ _ leaves none same refl p.plays e)
left-over (Err stop.HistoryFull) g x y z before now leaves none same p e = row g x.number z.seen z.seen before now HistoryFull p.plays.bytes refl p.received (all-left (Err stop.HistoryFull) true g x y z _ _ _ _ leaves none same refl p.plays e)
left-over (Err (stop.Broken at)) g x y z before now leaves none same p e = row g x.number z.seen z.seen before now (Broken at) p.plays.bytes refl p.received (all-left (Err (stop.Broken at)) true g x y z _ _ _ _ leaves none same refl p.plays e)
left-over (Err stop.NoMemory) g x y z before now leaves none same p e = row g x.number z.seen z.seen before now NoMemory p.plays.bytes refl p.received (all-left (Err stop.NoMemory) true g x y z _ _ _ _ leaves none same refl p.plays e)
left-over (Err stop.WriteFault) g x y z before now leaves none same p e =
    row g x.number z.seen y.seen before now LinkWrite p.plays.bytes (parted g.gives x y z same e) p.received (unwritten-served (Err stop.WriteFault) true g x y _ _ _ _ refl none same p.plays)

-- and where sending failed before, so it is of a connection in which something was lost
lost-row : (parting : List Entry → Bool) (g : Service) (x y z : Seated) (before now : Wire) (why : Stop) (r : Result InputEnd Stop) → is_unwritten r ≡ false → x.seen ≡ [] → IsSameSeat x y → (p : Plays true (Opening ∷ []) g x y before.outlet now.outlet (inlet_of before) (inlet_of now) r)
    → (bytes : List ℕ) → p.bytes ≡ bytes → Appends before.received now.received bytes → Sees g.gives y z × IsLoss parting why z → WasServedOver g x.number z.seen before now (ended_of (Err why))
lost-row parting g x y z before now (stop.Broken at) r written none same p bytes e received s =
    let w = leaving-lost parting true g x y z before.outlet now.outlet (inlet_of before) (inlet_of now) r (stop.Broken at) none same written p s in
    row g x.number z.seen z.seen before now (Broken at) bytes refl received (w.0, w.1 ∙ e)
lost-row parting g x y z before now stop.NoMemory r written none same p bytes e received s =
    let w = leaving-lost parting true g x y z before.outlet now.outlet (inlet_of before) (inlet_of now) r stop.NoMemory none same written p s in
    row g x.number z.seen z.seen before now NoMemory bytes refl received (w.0, w.1 ∙ e)
lost-row parting g x y z before now stop.HistoryFull r written none same p bytes e received s = absurd s.1
lost-row parting g x y z before now stop.WriteFault r written none same p bytes e received s = absurd s.1

-- leaving failed, whatever was played before
pub lost-over : (parting : List Entry → Bool) (r : Result InputEnd Stop) (g : Service) (x y z : Seated) (before now : Wire) (why : Stop) → x.seen ≡ [] → IsSameSeat x y → PlaysOver (Opening ∷ []) g x y before now r → Sees g.gives y z × IsLoss parting why z → WasServedOver g x.number z.seen before now (ended_of (Err why))
lost-over parting (Ok ending) g x y z before now why none same p s = lost-row parting g x y z before now why (Ok ending) refl none same p.plays p.plays.bytes refl p.received s
lost-over parting (Err stop.HistoryFull) g x y z before now why none same p s = lost-row parting g x y z before now why (Err stop.HistoryFull) refl none same p.plays p.plays.bytes refl p.received s
lost-over parting (Err (stop.Broken n)) g x y z before now why none same p s = lost-row parting g x y z before now why (Err (stop.Broken n)) refl none same p.plays p.plays.bytes refl p.received s
lost-over parting (Err stop.NoMemory) g x y z before now why none same p s = lost-row parting g x y z before now why (Err stop.NoMemory) refl none same p.plays p.plays.bytes refl p.received s
lost-over parting (Err stop.WriteFault) g x y z before now why none same p s =
    let q = plays-lost true (Opening ∷ []) g x y before.outlet now.outlet (inlet_of before) (inlet_of now) p.plays in
    lost-row parting g x y z before now why (Err stop.NoMemory) refl none same q.0 p.plays.bytes q.1 p.received s
