-- What a line plays and what it is answered.
use Rattle.std.specs.Prelude.{ℕ, true, false, List, [], ◌∷◌, ◌++◌, map, None, Some, Ok, Err}
use Rattle.std.specs.declared.option.Option.{Option}
use Rattle.std.specs.declared.result.Result.{Result}
use Rattle.key_names.specs.declared.key.Key.{Key}
use Rattle.requests.specs.declared.request.Request.{Request}
use Rattle.requests.specs.declared.request.Request.TheVariants.{Nothing, Keys, Resize, Scroll, Mouse, MenuSelect}
use Rattle.drawings.specs.declared.refusal.Refusal.{Refusal}
use Rattle.json_writing.specs.Refusals.{refusal_bytes}
use Rattle.requests.specs.Reading.{Reads}
use Rattle.session_turns.specs.Turns.{Protocol}
use Rattle.session_events.specs.declared.event.Event.{Event}
use Rattle.session_events.specs.declared.event.Event.TheVariants.{Join, Key as Struck, Resize as Resized, Scroll as Scrolled, Mouse as Pointed, Refresh, Leave}

-- keys are struck one by one, and then the client is drawn
abbrev pub keys_played : List Key → List Event
keys_played keys = map (λ key. Struck key) keys ++ Refresh true ∷ []

-- the events that a request asks for; nothing where it asks for nothing, not even to be drawn
abbrev pub events_asked : Request → Option (List Event)
events_asked Nothing = None
events_asked (Keys keys) = Some (map (λ key. Struck key) keys)
events_asked (Resize size) = Some (Resized size ∷ [])
events_asked (Scroll lines place) = Some (Scrolled lines ∷ [])
events_asked (Mouse mouse) = Some (Pointed mouse ∷ [])
events_asked MenuSelect = None

-- events that were asked for, and then the client is drawn
abbrev pub drawn_after : Option (List Event) → List Event
drawn_after None = []
drawn_after (Some events) = events ++ Refresh true ∷ []

-- the events of a line that was read: none where it is refused
abbrev pub played_by : Result Request Refusal → List Event
played_by (Ok request) = drawn_after (events_asked request)
played_by (Err refusal) = []

-- the bytes of a line's refusal, if it is refused
abbrev pub bytes_of_refusal : Result Request Refusal → List ℕ
bytes_of_refusal (Ok request) = []
bytes_of_refusal (Err refusal) = refusal_bytes refusal

-- the protocol of the editor's connections, where lines are these requests and these keys are struck before the first drawing
abbrev pub protocol : Reads → List Key → Protocol Event
protocol reads opens = record {
  opening = Join ∷ keys_played opens;
  asks = λ line. played_by (reads line);
  refuses = λ line. bytes_of_refusal (reads line);
  idles = Refresh false;
  leaves = Leave;
}
