-- How the reading of a line goes on, take by take.
use Rattle.std.proofs.Common.{◌≡◌, ℕ, ◌+◌, ◌≤◌, inr, List, ◌++◌, length, refl, sym, ap, ◌∙◌, subst, arith, append_assoc, length-append}
use Rattle.std.specs.Io.KnownBytes.{Consumes}
use Rattle.std.proofs.KnownBytes.{Consumes-trans}
use Rattle.kak_ports.specs.Ports.{Inlet}
use Rattle.session_turns.specs.Lines.{HasNoNewline}
use Rattle.line_reading.specs.declared.limits.TheConstants.{MAX_INPUT, MAX_PIECE}
use Rattle.line_reading.specs.Pieces.{IsPieceTaken}
use Rattle.line_reading.specs.Reading.{Reading, IsNeeded}
use Rattle.line_reading.proofs.CutLemmas.{none-append}

-- what was taken so far for a line: its bytes stand in the line, where no newline is, and in the piece
pub record HasTaken (old : Reading) (left rest : Inlet) (line piece : List ℕ) (taken : ℕ) : Type 0 where
  pub bytes : List ℕ
  pub takes : Consumes left.left rest.left bytes
  pub counted : taken ≡ old.taken + length bytes
  pub few : taken ≤ MAX_INPUT
  pub needed : IsNeeded old.pending left bytes
  pub all : old.pending ++ bytes ≡ line ++ piece
  pub none : HasNoNewline line
  pub most : rest.most ≡ left.most
  pub faults : rest.faults ≡ left.faults

-- the piece had no newline, and one more was taken
abbrev pub more-taken : (old : Reading) (left rest more : Inlet) (line piece longer next : List ℕ) (taken count room : ℕ) → longer ≡ line ++ piece → HasNoNewline piece → IsPieceTaken count rest more room next → room ≤ MAX_PIECE → taken + room ≤ MAX_INPUT
    → more.most ≡ rest.most → more.faults ≡ rest.faults → HasTaken old left rest line piece taken → HasTaken old left more longer next (taken + count)
more-taken old left rest more line piece longer next taken count room e h t one few most faults s =
    let none : HasNoNewline longer = subst HasNoNewline (sym e) (none-append line piece s.none h) in
    let here : old.pending ++ s.bytes ≡ longer = s.all ∙ sym e in
    record {
      bytes = s.bytes ++ next;
      takes = Consumes-trans left.left rest.left more.left s.bytes next s.takes t.bytes;
      counted = omega (arith, s.counted, t.size, length-append s.bytes next);
      few = omega (arith, few, t.inside);
      needed = inr (record {
        before = s.bytes;
        piece = next;
        cut = refl;
        none = subst HasNoNewline (sym here) none;
        one = omega (arith, t.size, t.inside, one);
        most = omega (arith, t.size, t.most, s.most);
      });
      all = sym (append_assoc old.pending s.bytes next) ∙ ap (λ q. q ++ next) here;
      none = none;
      most = most ∙ s.most;
      faults = faults ∙ s.faults;
    }
