-- How the hearing of a line goes on, piece by piece.
use Rattle.std.proofs.Common.{◌≡◌, ℕ, ◌<◌, ◌≤◌, inl, Bool, true, false, List, [], ◌++◌, length, None, Some, IfSome, refl, sym, ap, ◌∙◌, subst, arith, append-nil}
use Rattle.std.specs.Prelude.{if◌then◌else◌}
use Rattle.std.specs.declared.option.Option.{Option}
use Rattle.std.specs.declared.result.Result.{Result}
use Rattle.std.specs.Io.KnownBytes.{Appends, Consumes, IsAtEnd}
use Rattle.std.proofs.KnownBytes.{Consumes-nil}
use Rattle.session_turns.specs.Lines.{HasNoNewline}
use Rattle.client_links.specs.Wires.{Wire, HearsNothing, StaysUntold, TellsNoMore}
use Rattle.line_reading.specs.declared.limits.TheConstants.{MAX_INPUT}
use Rattle.line_reading.specs.declared.reader.Came.{Came}
use Rattle.line_reading.specs.Reading.{Reading, GivesNext, GivesLast, HasEnded, KeepsPart}
use Rattle.line_reading.specs.Hearing.{inlet_of, next_of, HearsLine}
use Rattle.line_reading.proofs.CutLemmas.{none-append}
use Rattle.line_reading.proofs.TakenLemmas.{HasTaken}

untold-trans : (a b c : Option (List ℕ)) → StaysUntold a b → StaysUntold b c → StaysUntold a c
untold-trans None b c e f = rw e at f
untold-trans (Some x) b c e f = tt

-- what isn't told stays so from one moment to the next
pub told-trans : (a b c : Wire) → TellsNoMore a b → TellsNoMore b c → TellsNoMore a c
told-trans a b c d e = record {
  received = untold-trans a.received b.received c.received d.received e.received;
  left = untold-trans a.left b.left c.left d.left e.left;
  sent = untold-trans a.outlet.told b.outlet.told c.outlet.told d.sent e.sent;
}

-- what was received so far for a line, and what is told of it
pub line-heard : {E : Type 0} (answer : Result Came E) (old new : Reading) (before now more : Wire) (line piece : List ℕ) (count : ℕ) → (s : HasTaken old (inlet_of before) (inlet_of now) line piece count) → Appends before.received now.received s.bytes → HearsNothing now more
    → new.taken ≡ count → GivesNext (next_of answer) old new (inlet_of before) s.bytes → HearsLine answer old new before more
line-heard answer old new before now more line piece count s r h e g = record {
  reads = record { bytes = s.bytes; takes = subst (λ q. Consumes before.left q s.bytes) (sym h.1) s.takes; counted = e ∙ s.counted; few = omega (arith, e, s.few); needed = s.needed; gives = g };
  received = subst (λ q. Appends before.received q s.bytes) (sym h.0) r;
}

-- what is pending where no line was given out
pending-kept : (given : Bool) (more rest all : List ℕ) → given ≡ false → rest ≡ [] → more ≡ all → (if given then [] else more) ++ rest ≡ all
pending-kept true more rest all g r e = cc
pending-kept false more rest all g r e = ap (λ q. more ++ q) r ∙ append-nil more ∙ e

-- no newline has come: all that has come is kept
pub part-kept : (old : Reading) (before now : Wire) (line piece more rest : List ℕ) (given : Bool) (count : ℕ) → (s : HasTaken old (inlet_of before) (inlet_of now) line piece count) → given ≡ false → more ≡ line ++ piece → HasNoNewline piece → rest ≡ []
    → KeepsPart old (record { taken = count; pending = (if given then [] else more) ++ rest; line = more }) s.bytes
part-kept old before now line piece more rest given count s g e h r = record {
  none = subst HasNoNewline (sym s.all) (none-append line piece s.none h);
  kept = pending-kept given more rest (old.pending ++ s.bytes) g r (e ∙ sym s.all);
}

-- the link has ended: all that it said was received
all-heard : (a b : Option (List ℕ)) (bytes : List ℕ) → Consumes a b bytes → IsAtEnd b → IfSome a (λ input. input ≡ bytes)
all-heard None b bytes c e = tt
all-heard (Some x) None bytes c e = absurd c
all-heard (Some x) (Some y) bytes c e = c ∙ ap (λ q. bytes ++ q) e ∙ append-nil bytes

pub link-ended : (old : Reading) (before now : Wire) (line piece more rest : List ℕ) (given : Bool) (count : ℕ) → (s : HasTaken old (inlet_of before) (inlet_of now) line piece count) → given ≡ false → IsAtEnd now.left → more ≡ line ++ piece → more ≡ [] → rest ≡ []
    → HasEnded old (record { taken = count; pending = (if given then [] else more) ++ rest; line = more }) (inlet_of before) s.bytes
link-ended old before now line piece more rest given count s g end e none r = record {
  ended = all-heard before.left now.left s.bytes s.takes end;
  all = s.all ∙ sym e ∙ none;
  nothing = pending-kept given more rest [] g r none;
}

pub last-heard : (old : Reading) (before now : Wire) (line piece more rest : List ℕ) (count : ℕ) → (s : HasTaken old (inlet_of before) (inlet_of now) line piece count) → IsAtEnd now.left → more ≡ line ++ piece → HasNoNewline piece → 0 < length more → rest ≡ []
    → GivesLast old (record { taken = count; pending = rest; line = more }) (inlet_of before) s.bytes
last-heard old before now line piece more rest count s end e h some r = record {
  ended = all-heard before.left now.left s.bytes s.takes end;
  all = s.all ∙ sym e;
  none = subst HasNoNewline (sym e) (none-append line piece s.none h);
  some = some;
  nothing = r;
}

-- where nothing could be moved, all is still pending
pub pending-still : (given : Bool) (more rest line piece all : List ℕ) → given ≡ false → more ≡ line → rest ≡ piece → all ≡ line ++ piece → (if given then [] else more) ++ rest ≡ all
pending-still true more rest line piece all g m r e = cc
pending-still false more rest line piece all g m r e = ap (λ q. q ++ rest) m ∙ ap (λ q. line ++ q) r ∙ sym e

pub begun : (given : Bool) (was : List ℕ) → HasNoNewline was → HasNoNewline (if given then [] else was)
begun true was none = refl
begun false was none = none

-- nothing was received yet
abbrev pub begin-hearing : (old : Reading) (before : Wire) (line piece was : List ℕ) (given : Bool) (taken : ℕ) → record { taken = taken; pending = (if given then [] else was) ++ piece; line = was } ≡ old → taken ≤ MAX_INPUT → line ≡ (if given then [] else was) → HasNoNewline was
    → HasTaken old (inlet_of before) (inlet_of before) line piece taken
begin-hearing old before line piece was given taken v few l none = record {
  bytes = [];
  takes = Consumes-nil before.left;
  counted = omega (arith, ap (λ r. r.taken) v);
  few = few;
  needed = inl refl;
  all = append-nil old.pending ∙ sym (ap (λ r. r.pending) v) ∙ ap (λ q. q ++ piece) (sym l);
  none = subst HasNoNewline (sym l) (begun given was none);
  most = refl;
  faults = refl;
}

pub told-same : (a : Wire) → TellsNoMore a a
told-same a = record { received = same a.received; left = same a.left; sent = same a.outlet.told }
  where
    same : (x : Option (List ℕ)) → StaysUntold x x
    same None = refl
    same (Some x) = tt

pub not-some : (o : Option ℕ) → ((n : ℕ) → o ≡ Some n → ⊥) → o ≡ None
not-some None none = refl
not-some (Some n) none = absurd (none n refl)
