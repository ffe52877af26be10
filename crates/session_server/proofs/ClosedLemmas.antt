-- A session whose engine is closed, so that nobody plays it on, stands as it did.
use Rattle.std.proofs.Common.{◌≡◌, ◌⊎◌, inl, inr, ℕ, List, length, map, All, Option, Some, None, IfSome, sym, ◌∙◌, subst, ◌<◌}
use Rattle.client_links.specs.Wires.{Wire}
use Rattle.session_events.specs.Legal.{IsLegal}
use Rattle.link_lines.specs.declared.ended.Ended.{Ended}
use Rattle.engine_desk.specs.Sharing.{Frame, Shared, frame_of}
use Rattle.session_server.specs.declared.status.ServerStatus.{ServerStatus}
use Rattle.session_server.specs.declared.status.ServerStatus.TheVariants.{Ended as AllLeft, Usage, AcceptFault, SpawnFault, Broken, LinksFull, BindFault, NoMemory}
use Rattle.session_server.specs.Sessions.{RowsFrom, SessionStands, SessionCausedBy, WasDeserted, AcceptsFor, SpawnsFor, MayHaveRisen}

pub stands-closed : {S : Type 0} (closed : S → Wire) (frame : Frame) (file : Option (List ℕ)) (before now : Option (List Wire)) (why : ServerStatus) (ends : List (Ended × S)) (old new : Shared)
    → new.engine.history ≡ old.engine.history → new.engine.mark ≡ old.engine.mark → frame_of new ≡ frame_of old
    → SessionStands closed frame file before now why ends old → SessionStands closed frame file before now why ends new
stands-closed closed frame file before now why ends old new history mark framed stands = record {
  frame_is = framed ∙ stands.frame_is;
  links = stands.links;
  in_order = stands.in_order;
  rows = subst (λ m. RowsFrom closed frame.limit new.engine.history m 0 file stands.links ends) (sym mark) (subst (λ h. RowsFrom closed frame.limit h old.engine.mark 0 file stands.links ends) (sym history) stands.rows);
  numbers = subst (λ h. All (λ entry. entry.who < length ends) h) (sym history) stands.numbers;
  legal = subst (λ h. IsLegal frame.limit h) (sym history) stands.legal;
  marked = subst (λ m. IfSome m (λ at. at ≡ length new.engine.history)) (sym mark) (subst (λ h. IfSome old.engine.mark (λ at. at ≡ length h)) (sym history) stands.marked);
}

pub caused-closed : (why : ServerStatus) (count : ℕ) (old new : Shared) → new.engine.history ≡ old.engine.history → new.engine.mark ≡ old.engine.mark → SessionCausedBy why count old → SessionCausedBy why count new
caused-closed AllLeft count old new history mark c = subst WasDeserted (sym history) c
caused-closed Usage count old new history mark c = c
caused-closed AcceptFault count old new history mark c = c
caused-closed SpawnFault count old new history mark c = c
caused-closed NoMemory count old new history mark c = c
caused-closed (Broken at) count old new history mark c = mark ∙ c
caused-closed LinksFull count old new history mark c = c
caused-closed BindFault count old new history mark c = c

-- whatever is said of a count of faults, it may have risen
pub accepts-may : (why : ServerStatus) (before now : ℕ) → AcceptsFor why before now → MayHaveRisen before now
accepts-may AllLeft before now c = inl c
accepts-may Usage before now c = inl c
accepts-may AcceptFault before now c = inr c
accepts-may SpawnFault before now c = inl c
accepts-may NoMemory before now c = c
accepts-may (Broken at) before now c = inl c
accepts-may LinksFull before now c = inl c
accepts-may BindFault before now c = inl c

pub spawns-may : (why : ServerStatus) (before now : ℕ) → SpawnsFor why before now → MayHaveRisen before now
spawns-may AllLeft before now c = inl c
spawns-may Usage before now c = inl c
spawns-may AcceptFault before now c = inl c
spawns-may SpawnFault before now c = inr c
spawns-may NoMemory before now c = c
spawns-may (Broken at) before now c = inl c
spawns-may LinksFull before now c = inl c
spawns-may BindFault before now c = inl c
