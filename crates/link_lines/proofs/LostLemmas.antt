-- Where a sending failed and more was lost behind it, what stands and what was sent are beginnings.
use Rattle.std.proofs.Common.{◌≡◌, ℕ, ◌≤◌, Bool, List, [], ◌∷◌, ◌++◌, length, take, drop, Err, refl, sym, ap, ◌∙◌, arith, append_assoc}
use Rattle.std.specs.Prelude.{if◌then◌else◌}
use Rattle.std.specs.List.{flat_map}
use Rattle.std.proofs.lemmas.Bool.{le-ltb}
use Rattle.std.proofs.lemmas.List.{take_all}
use Rattle.kak_ports.specs.Ports.{Inlet, Outlet}
use Rattle.session_turns.specs.Histories.{Answer, events_of, bytes_of, is_leaving}
use Rattle.session_turns.specs.Turns.{Phase, Protocol, later, plays, says, phase_size, played, due, all_sent, sent}
use Rattle.session_turns.specs.Growth.{Begins, IsUnsent, IsLost}
use Rattle.session_turns.proofs.Lists.{events_of-append, length-events_of}
use Rattle.session_turns.proofs.TurnLemmas.{due-append, sent-append, unsent-more}
use Rattle.session_events.specs.Seats.{Seated}
use Rattle.session_lines.specs.declared.playing.Stop.TheVariants as stop
use Rattle.session_lines.specs.Serving.{Service}
use Rattle.session_lines.specs.Connections.{Plays}

-- what a phase that was answered whole sends, and those behind it
one-first : {E : Type 0} (p : Protocol E) (t : Phase) (ts : List Phase) (a : List (Answer E)) → events_of a ≡ plays p t → all_sent p (t ∷ ts) a ≡ (bytes_of a ++ says p t) ++ all_sent p ts (drop (phase_size p t) a)
one-first p t ts a e =
    let count : length a ≡ phase_size p t = sym (length-events_of a) ∙ ap length e in
    let m : phase_size p t ≤ length a = omega (arith, count) in
    let all : take (phase_size p t) a ≡ a = take_all (phase_size p t) a (omega (arith, count)) in
    rw (le-ltb (length a) (phase_size p t) m, all) refl

joined : {A : Type 0} (whole first front rest a b : List A) → whole ≡ first ++ (b ++ rest) → a ≡ first ++ b → whole ≡ a ++ rest
joined whole first front rest a b w e = w ∙ sym (append_assoc first b rest) ∙ ap (λ q. q ++ rest) (sym e)

unsent-due : {E : Type 0} (p : Protocol E) (ts : List Phase) (a : List (Answer E)) (x : List ℕ) → IsUnsent p ts a x → Begins (due p ts a) (events_of a)
unsent-due p ts a x u =
    let rest : List _ = flat_map (plays p) (if is_leaving (take (phase_size p u.at) u.late) then [] else played p u.behind (drop (phase_size p u.at) u.late)) in (
      rest,
      joined (due p ts a) (events_of u.early) [] rest (events_of a) (events_of u.late)
          (ap (λ q. due p q a) u.split ∙ ap (due p (u.before ++ u.at ∷ u.behind)) u.answers
          ∙ due-append p u.before (u.at ∷ u.behind) u.early u.late u.whole.events u.whole.stays
          ∙ ap (λ q. events_of u.early ++ (q ++ rest)) (sym u.events))
          (ap events_of u.answers ∙ events_of-append u.early u.late),
    )

unsent-sent : {E : Type 0} (p : Protocol E) (ts : List Phase) (a : List (Answer E)) (x : List ℕ) → IsUnsent p ts a x → Begins (sent p ts a) x
unsent-sent p ts a x u =
    let behind : List Phase = if is_leaving (take (phase_size p u.at) u.late) then [] else played p u.behind (drop (phase_size p u.at) u.late) in
    let more : List ℕ = all_sent p behind (drop (phase_size p u.at) u.late) in (
      u.begins.0 ++ more,
      joined (sent p ts a) u.first [] (u.begins.0 ++ more) x u.front
          (ap (λ q. sent p q a) u.split ∙ ap (sent p (u.before ++ u.at ∷ u.behind)) u.answers
          ∙ sent-append p u.before (u.at ∷ u.behind) u.early u.late u.whole.events u.whole.stays
          ∙ ap (λ q. q ++ sent p (u.at ∷ u.behind) u.late) (sym u.whole.bytes)
          ∙ ap (λ q. u.first ++ q) (one-first p u.at behind u.late u.events ∙ ap (λ q. q ++ more) u.begins.1 ∙ append_assoc u.front u.begins.0 more))
          u.bytes,
    )

-- phases of which the last one that was played was not wholly sent
pub unsent-lost : {E : Type 0} (p : Protocol E) (ts : List Phase) (a : List (Answer E)) (x : List ℕ) → IsUnsent p ts a x → IsLost p ts a x
unsent-lost p ts a x u = record {
  events = λ more. unsent-due p (ts ++ more) a x (unsent-more p ts more a x u);
  bytes = λ more. unsent-sent p (ts ++ more) a x (unsent-more p ts more a x u);
}

-- so a connection over which a sending failed is one in which something was lost
pub plays-lost : (u : Bool) (first : List Phase) (g : Service) (x y : Seated) (a b : Outlet) (left rest : Inlet) → (p : Plays u first g x y a b left rest (Err stop.WriteFault)) → (q : Plays u first g x y a b left rest (Err stop.NoMemory)) × (q.bytes ≡ p.bytes)
plays-lost u first g x y a b left rest p = (
  record {
    bytes = p.bytes;
    takes = p.takes;
    few = p.few;
    turns = p.turns;
    lines_are = p.lines_are;
    asked = p.asked;
    serves = record {
      got = p.serves.got;
      out = p.serves.out;
      adds = p.serves.adds;
      sends = p.serves.sends;
      fits = unsent-lost g.protocol (first ++ later p.turns) p.serves.got p.serves.out p.serves.fits;
    };
    end_is = tt;
  },
  refl,
)
