-- Worked examples of what is heard over a link, and of what comes in at an acceptor.
use Rattle.std.specs.Prelude.{◌≡◌, ℕ, List, [], ◌∷◌, Some, None}
use Rattle.client_links.specs.declared.link.Heard.TheVariants.{Got, End, Idle, Failed}
use Rattle.client_links.specs.declared.acceptor.Bound.TheVariants.{Up}
use Rattle.client_links.specs.declared.acceptor.Next.TheVariants.{Came, Idle as NoneYet}
use Rattle.client_links.specs.Wires.{Wire, Hears, HearingTakesPauses, HearingIsCounted, TellsNoMore, IsFresh}
use Rattle.client_links.specs.Doors.{Door, led_by, Binds, Comes, ComesInOrder}

-- a link that tells all, over which nothing was sent, with one pause to come
abbrev pub wire : List ℕ → List ℕ → Wire
wire received left = record { received = Some received; left = Some left; pauses = Some 1; read_faults = 0; outlet = record { told = Some []; faults = 0 } }

-- a link that tells what will come, and no pauses
abbrev pub unpaused_link : List ℕ → Wire
unpaused_link left = record { received = None; left = Some left; pauses = None; read_faults = 0; outlet = record { told = None; faults = 0 } }

-- a link that tells nothing, of which so many receivings failed
abbrev pub untold_link : ℕ → Wire
untold_link faults = record { received = None; left = None; pauses = None; read_faults = faults; outlet = record { told = None; faults = 0 } }

-- two links that are to come
abbrev pub first : Wire
first = wire [] (1 ∷ [])

abbrev pub second : Wire
second = wire [] (2 ∷ [])

-- an acceptor that listens for session 115, to which so many links came, and these will
abbrev pub open_door : ℕ → List Wire → Door
open_door came links = record { listens = Some (115 ∷ []); came = Some came; to_come = Some links; faults = 0 }

-- an acceptor that doesn't listen, to which no link came, and these will
abbrev pub shut_door : List Wire → Door
shut_door links = record { listens = None; came = Some 0; to_come = Some links; faults = 0 }

-- a link that comes, seen as itself
abbrev pub itself : Wire → Wire
itself link = link

pub record Examples : Type 0 where
  -- 2 and 3 came behind 1 into a room of three bytes, of which the third is left open
  pub got : Hears (Got 2) (wire (1 ∷ []) (2 ∷ 3 ∷ 4 ∷ [])) (wire (1 ∷ 2 ∷ 3 ∷ []) (4 ∷ [])) (2 ∷ 3 ∷ 9 ∷ [])
  pub got_untold : Hears (Got 1) (untold_link 0) (untold_link 0) (7 ∷ [])
  -- nothing has come yet, though 1 still will; behind it the other side has ended
  pub idle : Hears Idle (wire [] (1 ∷ [])) (wire [] (1 ∷ [])) (9 ∷ [])
  pub ended : Hears End (wire (1 ∷ []) []) (wire (1 ∷ []) []) (9 ∷ [])
  -- nor has anything come where nothing will but the pause that is told, or where nothing is told
  pub idle_before_the_end : Hears Idle (wire (1 ∷ []) []) (wire (1 ∷ []) []) (9 ∷ [])
  pub idle_untold : Hears Idle (untold_link 0) (untold_link 0) (9 ∷ [])
  pub idle_unpaused : Hears Idle (unpaused_link (1 ∷ [])) (unpaused_link (1 ∷ [])) (9 ∷ [])
  pub counted : HearingIsCounted Failed (untold_link 3) (untold_link 4)
  pub fresh : IsFresh (wire [] (1 ∷ []))
  -- a session is listened for, and the first link comes
  pub bound : Binds Up (shut_door []) (open_door 0 []) (115 ∷ [])
  pub came : Comes {L = ℕ} (Came 5) (open_door 0 []) (open_door 1 [])
  pub came_first : ComesInOrder itself (Came first) (open_door 0 (first ∷ second ∷ [])) (open_door 1 (second ∷ []))
  -- both came, the first one first, where it is told which were to come
  pub both_came : Some (first ∷ second ∷ []) ≡ led_by (first ∷ second ∷ []) (Some [])
  pub one_left : Some (first ∷ second ∷ []) ≡ led_by (first ∷ []) (Some (second ∷ []))
  pub untold_came : led_by (first ∷ []) None ≡ None
  -- none has come yet where none is left, or none is listened for
  pub none_left : ComesInOrder itself NoneYet (open_door 2 []) (open_door 2 [])
  pub none_asked : ComesInOrder itself NoneYet (shut_door (first ∷ [])) (shut_door (first ∷ []))
  -- the one pause is taken, and then no other; where none is told, there may be one each time
  pub paused : HearingTakesPauses Idle (Some 1) (Some 0)
  pub paused_untold : HearingTakesPauses Idle None None
  -- no bytes are not bytes that came, nor are more than there was room for
  pub not_none : Hears (Got 0) (wire [] []) (wire [] []) [] → ⊥
  pub no_room : Hears (Got 2) (untold_link 0) (untold_link 0) (7 ∷ []) → ⊥
  -- the end doesn't come before the last byte, and none is lost, while nothing has come either
  pub not_ended : Hears End (wire [] (1 ∷ [])) (wire [] (1 ∷ [])) [] → ⊥
  pub none_lost : Hears (Got 1) (wire [] (1 ∷ 2 ∷ [])) (wire (1 ∷ []) []) (1 ∷ []) → ⊥
  pub none_taken : Hears Idle (wire [] (1 ∷ [])) (wire (1 ∷ []) []) (1 ∷ []) → ⊥
  -- a link at its end that tells no pauses doesn't wait for more
  pub not_for_ever : Hears Idle (unpaused_link []) (unpaused_link []) (1 ∷ []) → ⊥
  -- a fault is counted, and what is no fault isn't
  pub no_fault : HearingIsCounted Idle (untold_link 3) (untold_link 4) → ⊥
  pub not_uncounted : HearingIsCounted Failed (untold_link 3) (untold_link 3) → ⊥
  -- what wasn't told isn't told later
  pub not_told : TellsNoMore (untold_link 0) (wire [] []) → ⊥
  pub not_fresh : IsFresh (wire (1 ∷ []) []) → ⊥
  -- no link comes where none is listened for, and none comes uncounted
  pub not_unasked : Comes {L = ℕ} (Came 5) (shut_door []) (shut_door []) → ⊥
  pub not_twice : Comes {L = ℕ} NoneYet (open_door 0 []) (open_door 1 []) → ⊥
  -- the links come in their order, each once, and one that is left isn't kept back
  pub not_second : ComesInOrder itself (Came second) (open_door 0 (first ∷ second ∷ [])) (open_door 1 (first ∷ [])) → ⊥
  pub not_again : ComesInOrder itself (Came first) (open_door 0 (first ∷ [])) (open_door 1 (first ∷ [])) → ⊥
  pub not_kept : ComesInOrder itself NoneYet (open_door 0 (first ∷ [])) (open_door 0 (first ∷ [])) → ⊥
  -- a link doesn't pause without end, pauses one by one, and only where nothing came
  pub not_endless : HearingTakesPauses Idle (Some 0) (Some 0) → ⊥
  pub not_uncounted_pause : HearingTakesPauses Idle (Some 1) (Some 1) → ⊥
  pub no_pause : HearingTakesPauses (Got 1) (Some 1) (Some 0) → ⊥
