-- What was taken of an input for the lines that were read of it.
use Rattle.std.proofs.Common.{◌≡◌, ℕ, ◌≤◌, inl, inr, List, [], ◌∷◌, ◌++◌, length, Ok, Err, refl, sym, ap, ◌∙◌, arith, append_assoc, append-nil, length-append}
use Rattle.std.specs.List.{AllByRecursion}
use Rattle.std.specs.declared.result.Result.{Result}
use Rattle.std.specs.Io.KnownBytes.{Consumes}
use Rattle.std.proofs.KnownBytes.{Consumes-nil, Consumes-trans}
use Rattle.kak_ports.specs.Ports.{Inlet}
use Rattle.line_reading.specs.declared.limits.TheConstants.{MAX_INPUT, MAX_PIECE}
use Rattle.line_reading.specs.declared.reader.NextLine.{NextLine}
use Rattle.line_reading.specs.declared.reader.NextLine.TheVariants as next
use Rattle.line_reading.specs.Reading.{Reading, IsNeeded, IsAll, ReadsCounted}
use Rattle.line_reading.proofs.CutLemmas.{no-lines, lines-given, given-pushed, none-pushed}
use Rattle.session_turns.specs.Lines.{whole_lines, lines_of_input, with_newlines, HasNoNewline}
use Rattle.session_lines.proofs.ReadingLemmas.{all-behind, lines-behind, lines-all, lines-at, last-lines, input-lines}
use Rattle.session_replay.specs.Replays.{AreFirst, IsNeededFor}
use Rattle.session_replay.specs.Phases.{HasGivenLines, HasFirst, HasAllLines, HasWholeLines}

-- of the bytes all but a last piece completed no line that wasn't given out
pub record LastPiece (left : Inlet) (bytes : List ℕ) (given : List (List ℕ)) : Type 0 where
  pub before : List ℕ
  pub piece : List ℕ
  pub later : List (List ℕ)
  pub cut : bytes ≡ before ++ piece
  pub one : length piece ≤ MAX_PIECE
  pub most : length piece ≤ left.most
  pub lines : given ≡ whole_lines [] before ++ later

-- before the last piece no line was completed that wasn't given out
last-more : (left rest : Inlet) (bytes more pending : List ℕ) (given : List (List ℕ)) → rest.most ≡ left.most → bytes ≡ with_newlines given ++ pending → AllByRecursion HasNoNewline given → IsNeeded pending rest more → LastPiece left bytes given → LastPiece left (bytes ++ more) given
last-more left rest bytes more pending given m e none (inl h) l = record {
  before = l.before;
  piece = l.piece;
  later = l.later;
  cut = ap (λ q. bytes ++ q) h ∙ append-nil bytes ∙ l.cut;
  one = l.one;
  most = l.most;
  lines = l.lines;
}
last-more left rest bytes more pending given m e none (inr p) l = record {
  before = bytes ++ p.before;
  piece = p.piece;
  later = [];
  cut = ap (λ q. bytes ++ q) p.cut ∙ sym (append_assoc bytes p.before p.piece);
  one = p.one;
  most = omega (arith, p.most, m);
  lines = sym (append-nil (whole_lines [] (bytes ++ p.before)) ∙ ap (λ q. whole_lines [] (q ++ p.before)) e ∙ ap (whole_lines []) (append_assoc (with_newlines given) pending p.before)
      ∙ lines-given given (pending ++ p.before) none ∙ ap (λ r. given ++ r) (no-lines (pending ++ p.before) p.none) ∙ append-nil given);
}

-- what was read so far: these lines were given out, and these bytes stand behind them
pub record HasRead (left rest : Inlet) (taken : ℕ) (behind : List ℕ) (given : List (List ℕ)) : Type 0 where
  pub bytes : List ℕ
  pub takes : Consumes left.left rest.left bytes
  pub count : taken ≡ length bytes
  pub few : taken ≤ MAX_INPUT
  pub most : rest.most ≡ left.most
  pub all : bytes ≡ with_newlines given ++ behind
  pub none : AllByRecursion HasNoNewline given
  pub last : LastPiece left bytes given

-- nothing was read yet
pub begin-reading : (left : Inlet) (reading : Reading) → reading.taken ≡ 0 → reading.pending ≡ [] → HasRead left left reading.taken reading.pending []
begin-reading left reading t p = record {
  bytes = [];
  takes = Consumes-nil left.left;
  count = t;
  few = omega (arith, t);
  most = refl;
  all = sym p;
  none = tt;
  last = record { before = []; piece = []; later = []; cut = refl; one = omega arith; most = omega arith; lines = refl };
}

-- a call of the reader took what it took
abbrev read-more : {E : Type 0} (left rest more : Inlet) (answer : Result NextLine E) (was now : Reading) (given : List (List ℕ)) (r : ReadsCounted answer was now rest more) → more.most ≡ rest.most
    → HasRead left rest was.taken was.pending given → HasRead left more now.taken (was.pending ++ r.bytes) given
read-more left rest more answer was now given r m s = record {
  bytes = s.bytes ++ r.bytes;
  takes = Consumes-trans left.left rest.left more.left s.bytes r.bytes s.takes r.takes;
  count = omega (arith, r.counted, s.count, length-append s.bytes r.bytes);
  few = r.few;
  most = m ∙ s.most;
  all = ap (λ q. q ++ r.bytes) s.all ∙ append_assoc (with_newlines given) was.pending r.bytes;
  none = s.none;
  last = last-more left rest s.bytes r.bytes was.pending given s.most s.all s.none r.needed s.last;
}

-- the line behind those that were given needs the last piece
needed-next : (left : Inlet) (bytes line : List ℕ) (given : List (List ℕ)) → LastPiece left bytes given → IsNeededFor (length (given ++ line ∷ [])) left bytes
needed-next left bytes line given l = record {
  before = l.before;
  piece = l.piece;
  cut = l.cut;
  one = l.one;
  most = l.most;
  fewer = omega (arith, ap length l.lines, length-append (whole_lines [] l.before) l.later, length-append given (line ∷ []));
}

-- a line was given out
pub line-read : {E : Type 0} (left rest more : Inlet) (was now : Reading) (given : List (List ℕ)) → more.most ≡ rest.most → ReadsCounted {E = E} (Ok next.Line) was now rest more
    → HasRead left rest was.taken was.pending given → HasRead left more now.taken now.pending (given ++ now.line ∷ [])
line-read left rest more was now given m r s =
    let h = read-more left rest more (Ok next.Line) was now given r m s in
    record {
      bytes = h.bytes;
      takes = h.takes;
      count = h.count;
      few = h.few;
      most = h.most;
      all = h.all ∙ ap (λ q. with_newlines given ++ q) r.gives.split ∙ sym (given-pushed given now.line now.pending);
      none = none-pushed given now.line h.none r.gives.first;
      last = record {
        before = h.last.before;
        piece = h.last.piece;
        later = h.last.later ++ now.line ∷ [];
        cut = h.last.cut;
        one = h.last.one;
        most = h.last.most;
        lines = ap (λ q. q ++ now.line ∷ []) h.last.lines ∙ append_assoc (whole_lines [] h.last.before) h.last.later (now.line ∷ []);
      };
    }

pub line-given : {E : Type 0} (left rest more : Inlet) (was now : Reading) (given : List (List ℕ)) → more.most ≡ rest.most → ReadsCounted {E = E} (Ok next.Line) was now rest more
    → HasRead left rest was.taken was.pending given → HasGivenLines left more (given ++ now.line ∷ [])
line-given left rest more was now given m r s =
    let h = read-more left rest more (Ok next.Line) was now given r m s in
    record {
      bytes = h.bytes;
      takes = h.takes;
      few = omega (arith, h.few, h.count);
      first = inl (
        whole_lines [] now.pending,
        lines-at (s.bytes ++ r.bytes) (was.pending ++ r.bytes) now.line now.pending given h.all s.none r.gives.split r.gives.first
            ∙ sym (append_assoc given (now.line ∷ []) (whole_lines [] now.pending)),
      );
      needed = needed-next left (s.bytes ++ r.bytes) now.line given h.last;
    }

-- a last line was given out, behind which the input has ended
pub last-given : {E : Type 0} (left rest more : Inlet) (was now : Reading) (given : List (List ℕ)) → more.most ≡ rest.most → ReadsCounted {E = E} (Ok next.Last) was now rest more
    → HasRead left rest was.taken was.pending given → HasGivenLines left more (given ++ now.line ∷ [])
last-given left rest more was now given m r s =
    let h = read-more left rest more (Ok next.Last) was now given r m s in
    record {
      bytes = h.bytes;
      takes = h.takes;
      few = omega (arith, h.few, h.count);
      first = inr (
        all-behind left.left rest.left s.bytes r.bytes s.takes r.gives.ended,
        ([], last-lines (s.bytes ++ r.bytes) (was.pending ++ r.bytes) now.line given h.all s.none r.gives.all r.gives.none r.gives.some ∙ sym (append-nil (given ++ now.line ∷ []))),
      );
      needed = needed-next left (s.bytes ++ r.bytes) now.line given h.last;
    }

pub last-all : {E : Type 0} (left rest more : Inlet) (was now : Reading) (given : List (List ℕ)) → more.most ≡ rest.most → ReadsCounted {E = E} (Ok next.Last) was now rest more
    → HasRead left rest was.taken was.pending given → HasAllLines left more (given ++ now.line ∷ [])
last-all left rest more was now given m r s =
    let h = read-more left rest more (Ok next.Last) was now given r m s in
    record {
      bytes = h.bytes;
      takes = h.takes;
      few = omega (arith, h.few, h.count);
      all = all-behind left.left rest.left s.bytes r.bytes s.takes r.gives.ended;
      lines_are = sym (last-lines (s.bytes ++ r.bytes) (was.pending ++ r.bytes) now.line given h.all s.none r.gives.all r.gives.none r.gives.some);
    }

-- the input has ended behind the lines that were given
pub ended-all : {E : Type 0} (left rest more : Inlet) (was now : Reading) (given : List (List ℕ)) → more.most ≡ rest.most → ReadsCounted {E = E} (Ok next.Ended) was now rest more
    → HasRead left rest was.taken was.pending given → HasAllLines left more given
ended-all left rest more was now given m r s =
    let h = read-more left rest more (Ok next.Ended) was now given r m s in
    record {
      bytes = h.bytes;
      takes = h.takes;
      few = omega (arith, h.few, h.count);
      all = all-behind left.left rest.left s.bytes r.bytes s.takes r.gives.ended;
      lines_are = sym (input-lines (s.bytes ++ r.bytes) [] given (h.all ∙ ap (λ q. with_newlines given ++ q) r.gives.all) s.none refl ∙ append-nil given);
    }

-- the input failed behind them
pub fault-whole : {E : Type 0} (left rest more : Inlet) (was now : Reading) (given : List (List ℕ)) → more.most ≡ rest.most → ReadsCounted {E = E} (Ok next.ReadFault) was now rest more
    → HasRead left rest was.taken was.pending given → HasWholeLines left more now.taken given
fault-whole left rest more was now given m r s =
    let h = read-more left rest more (Ok next.ReadFault) was now given r m s in
    record {
      bytes = h.bytes;
      takes = h.takes;
      few = omega (arith, h.few, h.count);
      count = sym h.count;
      lines_are = sym (lines-all (s.bytes ++ r.bytes) (was.pending ++ r.bytes) given h.all s.none r.gives.none);
    }

-- all that may be taken was taken behind them
pub full-whole : {E : Type 0} (left rest more : Inlet) (was now : Reading) (given : List (List ℕ)) → more.most ≡ rest.most → ReadsCounted {E = E} (Ok next.Full) was now rest more
    → HasRead left rest was.taken was.pending given → HasWholeLines left more MAX_INPUT given
full-whole left rest more was now given m r s =
    let h = read-more left rest more (Ok next.Full) was now given r m s in
    record {
      bytes = h.bytes;
      takes = h.takes;
      few = omega (arith, h.few, h.count);
      count = sym h.count ∙ r.gives.1;
      lines_are = sym (lines-all (s.bytes ++ r.bytes) (was.pending ++ r.bytes) given h.all s.none r.gives.0.none);
    }

-- memory was wanting for a line behind them
pub none-first : {E : Type 0} (e : E) (left rest more : Inlet) (was now : Reading) (given : List (List ℕ)) → more.most ≡ rest.most → ReadsCounted (Err e) was now rest more
    → HasRead left rest was.taken was.pending given → HasFirst left more given
none-first e left rest more was now given m r s =
    let h = read-more left rest more (Err e) was now given r m s in
    record {
      bytes = h.bytes;
      takes = h.takes;
      few = omega (arith, h.few, h.count);
      first = inl (whole_lines [] (was.pending ++ r.bytes), lines-behind (s.bytes ++ r.bytes) (was.pending ++ r.bytes) given h.all s.none);
    }
