-- From what was played and how all parted to the statement for many clients.
use Rattle.std.proofs.Common.{◌≡◌, ℕ, ◌<◌, ◌≤◌, inl, inr, Bool, true, false, List, [], ◌∷◌, ◌++◌, length, take, map, Ok, refl, sym, ap, ◌∙◌, subst, arith, append-nil}
use Rattle.std.specs.Prelude.{get_or, Some}
use Rattle.std.specs.Io.KnownBytes.{Consumes}
use Rattle.std.proofs.lemmas.List.{length-map}
use Rattle.std.proofs.lemmas.List.Folds.{list_any-append}
use Rattle.kak_ports.specs.Ports.{Inlet}
use Rattle.ui_board.specs.declared.ui.Kind.{Kind}
use Rattle.ui_board.specs.declared.ui.Kind.TheVariants.{Silent}
use Rattle.ui_board.specs.Told.{Shown, untold, json_lines, report_of}
use Rattle.line_reading.specs.declared.limits.TheConstants.{MAX_INPUT}
use Rattle.session_turns.specs.Histories.{own}
use Rattle.session_turns.specs.Growth.{How}
use Rattle.session_events.specs.declared.event.Entry.{Entry}
use Rattle.session_events.specs.Meaning.{rules}
use Rattle.session_replay.specs.Settings.{Setting}
use Rattle.session_replay.specs.declared.ends.ReplayEnd.{ReplayEnd}
use Rattle.session_replay.specs.declared.ends.ReplayEnd.TheVariants.{Over, Ended, BadClient, ReadFault, Full}
use Rattle.session_replay.specs.Written.{Bad, written, lines_for}
use Rattle.session_replay.specs.Clients.{HeldClient, IsMoment, GrowsBy, moment}
use Rattle.session_replay.specs.Partings.{ends_as, how_at, AreParting}
use Rattle.session_replay.specs.Replays.{Replay, ClientHasEnded, StandsAt, is_bad, has_bad, is_over, leave_in_order, ReachesLines, StopsBehind, IsReplayed}
use Rattle.session_replay.proofs.ReplayLemmas.{moment-reached, reached-later, order-more}
use Rattle.session_replay.proofs.ReportLemmas.{HasShown, Parted, all-parted, ended-how}
use Rattle.session_replay.specs.Phases.{HasGivenLines, HasAllLines, HasWholeLines, replay_of, ArePlayedInOrder, HasPlayed, IsEnding}

-- nothing was played yet
pub nothing-played : (g : Setting) (limit : ℕ) (kinds : List Kind) (held : ℕ → HeldClient) → IsMoment g kinds [] (moment [] held) → HasPlayed g limit kinds [] false (moment [] held)
nothing-played g limit kinds held m = record { moment = m; good = refl; over_is = refl; order = λ shown count i inside. absurd (omega (arith, inside)) }

-- all lines but one were played in order
pub order-behind : (g : Setting) (limit : ℕ) (kinds : List Kind) (lines : List (List ℕ)) (w : List ℕ) (h more : List Entry) (held : ℕ → HeldClient) → HasPlayed g limit kinds lines false (moment h held) → ArePlayedInOrder g limit (length kinds) (lines ++ w ∷ []) (h ++ more)
order-behind g limit kinds lines w h more held p shown count =
    order-more (replay_of g limit (lines ++ w ∷ []) (h ++ more) shown) lines w
    (λ i inside. reached-later g limit lines (lines ++ w ∷ []) (take i lines) h more shown shown false refl (p.order shown count i inside))
    (moment-reached (replay_of g limit (lines ++ w ∷ []) (h ++ more) shown) kinds lines h more held false (sym count) refl p.moment (subst (λ n. has_bad n lines ≡ false) (sym count) p.good) p.over_is)

-- and lines are in order whatever entries come behind
pub order-later : (g : Setting) (limit count : ℕ) (lines : List (List ℕ)) (h more : List Entry) → ArePlayedInOrder g limit count lines h → ArePlayedInOrder g limit count lines (h ++ more)
order-later g limit count lines h more order shown same i inside = reached-later g limit lines lines (take i lines) h more shown shown false refl (order shown same i inside)

pub bad-more : (count : ℕ) (lines : List (List ℕ)) (w : List ℕ) → has_bad count lines ≡ false → is_bad (written count w) ≡ false → has_bad count (lines ++ w ∷ []) ≡ false
bad-more count lines w good e = list_any-append (λ line. is_bad (written count line)) lines (w ∷ []) ∙ rw (good, e) refl

-- one more line was played, and the replay goes on
pub line-played : (g : Setting) (limit : ℕ) (kinds : List Kind) (lines : List (List ℕ)) (w : List ℕ) (h more : List Entry) (held held' : ℕ → HeldClient) → HasPlayed g limit kinds lines false (moment h held) → IsMoment g kinds (lines ++ w ∷ []) (moment (h ++ more) held') → is_bad (written (length kinds) w) ≡ false → is_over (h ++ more) ≡ false
    → HasPlayed g limit kinds (lines ++ w ∷ []) false (moment (h ++ more) held')
line-played g limit kinds lines w h more held held' p m good over = record {
  moment = m;
  good = bad-more (length kinds) lines w p.good good;
  over_is = over;
  order = order-behind g limit kinds lines w h more held p;
}

-- so it is where the history grew by the entries of the line's client, and where it didn't
pub line-grew : (g : Setting) (limit : ℕ) (kinds : List Kind) (lines : List (List ℕ)) (w : List ℕ) (who : ℕ) (h h' : List Entry) (held held' : ℕ → HeldClient) → HasPlayed g limit kinds lines false (moment h held) → GrowsBy g who h h' → IsMoment g kinds (lines ++ w ∷ []) (moment h' held') → is_bad (written (length kinds) w) ≡ false → is_over h' ≡ false
    → HasPlayed g limit kinds (lines ++ w ∷ []) false (moment h' held')
line-grew g limit kinds lines w who h h' held held' p grows m good over =
    subst (λ q. HasPlayed g limit kinds (lines ++ w ∷ []) false (moment q held')) (sym grows.grows)
    (line-played g limit kinds lines w h grows.more held held' p (subst (λ q. IsMoment g kinds (lines ++ w ∷ []) (moment q held')) grows.grows m) good (subst (λ q. is_over q ≡ false) grows.grows over))

pub line-passed : (g : Setting) (limit : ℕ) (kinds : List Kind) (lines : List (List ℕ)) (w : List ℕ) (h : List Entry) (held held' : ℕ → HeldClient) → HasPlayed g limit kinds lines false (moment h held) → IsMoment g kinds (lines ++ w ∷ []) (moment h held') → is_bad (written (length kinds) w) ≡ false → HasPlayed g limit kinds (lines ++ w ∷ []) false (moment h held')
line-passed g limit kinds lines w h held held' p m good =
    subst (λ q. HasPlayed g limit kinds (lines ++ w ∷ []) false (moment q held')) (append-nil h)
    (line-played g limit kinds lines w h [] held held' p (subst (λ q. IsMoment g kinds (lines ++ w ∷ []) (moment q held')) (sym (append-nil h)) m) good (ap is_over (append-nil h) ∙ p.over_is))

pub order-grew : (g : Setting) (limit : ℕ) (kinds : List Kind) (lines : List (List ℕ)) (w : List ℕ) (who : ℕ) (h h' : List Entry) (held : ℕ → HeldClient) → HasPlayed g limit kinds lines false (moment h held) → GrowsBy g who h h' → ArePlayedInOrder g limit (length kinds) (lines ++ w ∷ []) h'
order-grew g limit kinds lines w who h h' held p grows = subst (λ q. ArePlayedInOrder g limit (length kinds) (lines ++ w ∷ []) q) (sym grows.grows) (order-behind g limit kinds lines w h grows.more held p)

-- behind a moment all that are here leave in order
abbrev pub Stops : Setting → ℕ → ℕ → List (List ℕ) → List (List ℕ) → List Entry → Bool → Type 0
Stops g limit count lines front h over = (shown : List Shown) → length shown ≡ count → StopsBehind (replay_of g limit lines h shown) front over

pub moment-stops : (g : Setting) (limit : ℕ) (kinds : List Kind) (lines front : List (List ℕ)) (h rest : List Entry) (held : ℕ → HeldClient) (over : Bool) → IsMoment g kinds front (moment h held) → has_bad (length kinds) front ≡ false → is_over h ≡ over → leave_in_order rest ≡ true → Stops g limit (length kinds) lines front (h ++ rest) over
moment-stops g limit kinds lines front h rest held over m good is order shown count = record {
  reaches = moment-reached (replay_of g limit lines (h ++ rest) shown) kinds front h rest held over (sym count) refl m (subst (λ n. has_bad n front ≡ false) (sym count) good) is;
  in_order = order;
}

-- What is known of all clients at an end, for boxes that have shown this.
pub record Concludes (g : Setting) (kinds : List Kind) (hows : ℕ → How) (lines : List (List ℕ)) (h : List Entry) (held : ℕ → HeldClient) : Type 0 where
  pub shown : List Shown
  pub kinds_are : map (λ box. box.kind) shown ≡ kinds
  pub count : length shown ≡ length kinds
  pub ended : (who : ℕ) → who < length shown → StandsAt (ends_as (hows who)) g who h (lines_for (length shown) who lines) (json_lines (get_or shown who (untold Silent)).told)
  pub strangers : (who : ℕ) → length shown ≤ who → own (rules g.gives) who h ≡ []
  pub reports : (who : ℕ) → who < length shown → (held who).report ≡ report_of (get_or shown who (untold Silent))
  pub boxes : (who : ℕ) → who < length shown → (held who).box ≡ Some (get_or shown who (untold Silent))

pub conclude : (g : Setting) (kinds : List Kind) (hows : ℕ → How) (lines : List (List ℕ)) (h : List Entry) (held : ℕ → HeldClient) → ((who : ℕ) → who < length kinds → IsEnding (hows who)) → AreParting g kinds hows (length kinds) lines (moment h held) → Concludes g kinds hows lines h held
conclude g kinds hows lines h held ending m =
    let s : HasShown kinds (Parted g (length kinds) hows lines h held) = all-parted g kinds hows lines h held ending m in
    let count : length s.shown ≡ length kinds = sym (length-map s.shown (λ box. box.kind)) ∙ ap length s.kinds_are in
    record {
      shown = s.shown;
      kinds_are = s.kinds_are;
      count = count;
      ended = λ who inside.
          subst (λ n. StandsAt (ends_as (hows who)) g who h (lines_for n who lines) (json_lines (get_or s.shown who (untold Silent)).told)) (sym count) (s.each who (subst (λ n. who < n) count inside)).0;
      strangers = λ who past. m.strangers who (subst (λ n. n ≤ who) count past);
      reports = λ who inside. (s.each who (subst (λ n. who < n) count inside)).1;
      boxes = λ who inside. (s.each who (subst (λ n. who < n) count inside)).2;
    }

-- all clients ended by a line or at the end
all-ended : (g : Setting) (limit : ℕ) (kinds : List Kind) (lines : List (List ℕ)) (h : List Entry) (held before : ℕ → HeldClient) → (c : Concludes g kinds (λ who. how_at (before who).place) lines h held) → (who : ℕ) → who < length c.shown → ClientHasEnded (replay_of g limit lines h c.shown) who
all-ended g limit kinds lines h held before c who inside =
    ended-how g (before who).place who h (lines_for (length c.shown) who lines) (json_lines (get_or c.shown who (untold Silent)).told) (c.ended who inside)

-- what was taken, and that it was replayed
pub record Done (replay : Replay) (ended : ReplayEnd) (left rest : Inlet) : Type 0 where
  pub bytes : List ℕ
  pub takes : Consumes left.left rest.left bytes
  pub few : length bytes ≤ MAX_INPUT
  pub replayed : IsReplayed replay (Ok ended) left bytes

pub replayed-ended : (g : Setting) (limit : ℕ) (kinds : List Kind) (lines : List (List ℕ)) (h : List Entry) (held before : ℕ → HeldClient) (left rest : Inlet) → (c : Concludes g kinds (λ who. how_at (before who).place) lines h held)
    → ArePlayedInOrder g limit (length kinds) lines h → Stops g limit (length kinds) lines lines h false → HasAllLines left rest lines → Done (replay_of g limit lines h c.shown) Ended left rest
replayed-ended g limit kinds lines h held before left rest c order stops r = record {
  bytes = r.bytes;
  takes = r.takes;
  few = r.few;
  replayed = record {
    first = inr (r.all, ([], sym r.lines_are ∙ sym (append-nil lines)));
    order = order c.shown c.count;
    strangers = c.strangers;
    ends = ((stops c.shown c.count, r.all, r.lines_are), all-ended g limit kinds lines h held before c);
  };
}

pub replayed-failed : (g : Setting) (limit : ℕ) (kinds : List Kind) (lines : List (List ℕ)) (h : List Entry) (held before : ℕ → HeldClient) (left rest : Inlet) (taken : ℕ) → (c : Concludes g kinds (λ who. how_at (before who).place) lines h held)
    → ArePlayedInOrder g limit (length kinds) lines h → Stops g limit (length kinds) lines lines h false → HasWholeLines left rest taken lines → Done (replay_of g limit lines h c.shown) ReadFault left rest
replayed-failed g limit kinds lines h held before left rest taken c order stops r = record {
  bytes = r.bytes;
  takes = r.takes;
  few = r.few;
  replayed = record {
    first = inl ([], sym r.lines_are ∙ sym (append-nil lines));
    order = order c.shown c.count;
    strangers = c.strangers;
    ends = ((stops c.shown c.count, r.lines_are), all-ended g limit kinds lines h held before c);
  };
}

pub replayed-full : (g : Setting) (limit : ℕ) (kinds : List Kind) (lines : List (List ℕ)) (h : List Entry) (held before : ℕ → HeldClient) (left rest : Inlet) → (c : Concludes g kinds (λ who. how_at (before who).place) lines h held)
    → ArePlayedInOrder g limit (length kinds) lines h → Stops g limit (length kinds) lines lines h false → HasWholeLines left rest MAX_INPUT lines → Done (replay_of g limit lines h c.shown) Full left rest
replayed-full g limit kinds lines h held before left rest c order stops r = record {
  bytes = r.bytes;
  takes = r.takes;
  few = r.few;
  replayed = record {
    first = inl ([], sym r.lines_are ∙ sym (append-nil lines));
    order = order c.shown c.count;
    strangers = c.strangers;
    ends = ((stops c.shown c.count, r.lines_are, r.count), all-ended g limit kinds lines h held before c);
  };
}

pub replayed-over : (g : Setting) (limit : ℕ) (kinds : List Kind) (lines : List (List ℕ)) (h : List Entry) (held before : ℕ → HeldClient) (left rest : Inlet) → (c : Concludes g kinds (λ who. how_at (before who).place) lines h held)
    → ArePlayedInOrder g limit (length kinds) lines h → Stops g limit (length kinds) lines lines h true → HasGivenLines left rest lines → Done (replay_of g limit lines h c.shown) Over left rest
replayed-over g limit kinds lines h held before left rest c order stops r = record {
  bytes = r.bytes;
  takes = r.takes;
  few = r.few;
  replayed = record {
    first = r.first;
    order = order c.shown c.count;
    strangers = c.strangers;
    ends = ((stops c.shown c.count, r.needed), all-ended g limit kinds lines h held before c);
  };
}

pub replayed-bad : (g : Setting) (limit : ℕ) (kinds : List Kind) (lines : List (List ℕ)) (w : List ℕ) (h : List Entry) (held before : ℕ → HeldClient) (left rest : Inlet) → (c : Concludes g kinds (λ who. how_at (before who).place) (lines ++ w ∷ []) h held) → written (length kinds) w ≡ Bad
    → ArePlayedInOrder g limit (length kinds) (lines ++ w ∷ []) h → Stops g limit (length kinds) (lines ++ w ∷ []) lines h false → HasGivenLines left rest (lines ++ w ∷ []) → Done (replay_of g limit (lines ++ w ∷ []) h c.shown) BadClient left rest
replayed-bad g limit kinds lines w h held before left rest c bad order stops r = record {
  bytes = r.bytes;
  takes = r.takes;
  few = r.few;
  replayed = record {
    first = r.first;
    order = order c.shown c.count;
    strangers = c.strangers;
    ends = (
      (record { before = lines; last = w; split = refl; bad = subst (λ n. written n w ≡ Bad) (sym c.count) bad; stops = stops c.shown c.count }, r.needed),
      all-ended g limit kinds (lines ++ w ∷ []) h held before c,
    );
  };
}
