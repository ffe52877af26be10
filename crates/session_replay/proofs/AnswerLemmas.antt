-- What is answered at the end of a replay, behind the reports.
use Rattle.std.proofs.Common.{◌≡◌, ℕ, ◌<◌, ◌≤◌, ◌⊎◌, inl, inr, List, [], ◌∷◌, ◌++◌, length, map, Ok, Err, refl, sym, ap, ◌∙◌, subst, arith}
use Rattle.std.specs.Prelude.{get_or}
use Rattle.std.specs.declared.option.Option.{Option}
use Rattle.std.specs.declared.result.Result.{Result}
use Rattle.std.specs.List.{flat_map}
use Rattle.std.proofs.KnownBytes.{Consumes-nil}
use Rattle.std.proofs.lemmas.List.{length-map}
use Rattle.kak_ports.specs.Ports.{Inlet, Outlet}
use Rattle.ui_board.specs.declared.ui.Kind.{Kind}
use Rattle.ui_board.specs.declared.ui.Kind.TheVariants.{Silent}
use Rattle.ui_board.specs.Told.{Shown, untold, report_of}
use Rattle.session_turns.specs.Lines.{whole_lines}
use Rattle.session_events.specs.declared.event.Entry.{Entry}
use Rattle.session_events.specs.Seats.{Seated}
use Rattle.session_lines.specs.declared.playing.Stop.{Stop}
use Rattle.session_lines.specs.declared.playing.Stop.TheVariants.{HistoryFull, Broken, NoMemory, WriteFault}
use Rattle.session_lines.specs.Stops.{Stops, StaysWhole}
use Rattle.session_replay.specs.Settings.{Setting}
use Rattle.session_replay.specs.declared.ends.ReplayEnd.{ReplayEnd}
use Rattle.session_replay.specs.declared.ends.ReplayEnd.TheVariants as end
use Rattle.session_replay.specs.declared.players.ReplayClient.{ReplayClient}
use Rattle.session_replay.specs.Clients.{HeldClient, moment}
use Rattle.session_replay.specs.Players.{reports}
use Rattle.session_replay.specs.Phases.{HoldReports, WasPlayed, IsNoLoss, Halts, ArePlayedInOrder}
use Rattle.session_replay.specs.Replays.{unwritten, Reports, WasReplayed}
use Rattle.session_replay.specs.Staying.{IsSessionStill}
use Rattle.session_replay.proofs.ReportLemmas.{reports-are}
use Rattle.session_replay.proofs.StoppedLemmas.{IsLosing, replayed-lost}

-- the reports of clients, one after another
reports-flat : (clients : List ReplayClient) → flat_map (λ client. client.report.items) clients ≡ flat_map (λ report. report) (reports clients)
reports-flat [] = refl
reports-flat (client ∷ clients) = ap (λ q. client.report.items ++ q) (reports-flat clients)

all-reports : (clients : List ReplayClient) (shown : List Shown) → length clients ≡ length shown → ((who : ℕ) → who < length shown → get_or (reports clients) who [] ≡ report_of (get_or shown who (untold Silent))) → flat_map (λ client. client.report.items) clients ≡ flat_map report_of shown
all-reports clients shown count each = reports-flat clients ∙ reports-are shown (reports clients) (length-map clients (λ client. client.report.items) ∙ count) each

held-reports : (ended : Result ReplayEnd Stop) (clients : List ReplayClient) (shown : List Shown) (held : ℕ → HeldClient) → length clients ≡ length shown → ((who : ℕ) → (held who).report ≡ get_or (reports clients) who []) → HoldReports ended shown held → IsNoLoss ended → flat_map (λ client. client.report.items) clients ≡ flat_map report_of shown
held-reports (Ok by) clients shown held count is h none = all-reports clients shown count (λ who inside. sym (is who) ∙ h who inside)
held-reports (Err HistoryFull) clients shown held count is h none = all-reports clients shown count (λ who inside. sym (is who) ∙ h who inside)
held-reports (Err WriteFault) clients shown held count is h none = all-reports clients shown count (λ who inside. sym (is who) ∙ h who inside)
held-reports (Err (Broken at)) clients shown held count is h none = absurd none
held-reports (Err NoMemory) clients shown held count is h none = absurd none

same-reports : (ended result : Result ReplayEnd Stop) (before now : Outlet) (xs ys : List ℕ) → (IsNoLoss ended → xs ≡ ys) → Reports ended result before now xs → Reports ended result before now ys
same-reports (Ok by) result before now xs ys e r = subst (λ q. Reports (Ok by) result before now q) (e tt) r
same-reports (Err HistoryFull) result before now xs ys e r = subst (λ q. Reports (Err HistoryFull) result before now q) (e tt) r
same-reports (Err WriteFault) result before now xs ys e r = subst (λ q. Reports (Err WriteFault) result before now q) (e tt) r
same-reports (Err (Broken at)) result before now xs ys e r = r
same-reports (Err NoMemory) result before now xs ys e r = r

-- what was played, behind the reports
pub played-replayed : (g : Setting) (limit at : ℕ) (kinds : List Kind) (ended result : Result ReplayEnd Stop) (h : List Entry) (held : ℕ → HeldClient) (clients told : List ReplayClient) (left rest : Inlet) (before now : Outlet) → at ≡ limit → length clients ≡ length kinds → ((who : ℕ) → (held who).report ≡ get_or (reports clients) who [])
    → told ≡ clients → WasPlayed g at kinds ended (moment h held) left rest → Reports ended result before now (flat_map (λ client. client.report.items) told) → WasReplayed g limit kinds (λ who. (held who).box) h left rest before now result
played-replayed g limit at kinds ended result h held clients told left rest before now e many is t q r =
    let p : WasPlayed g limit kinds ended (moment h held) left rest = subst (λ n. WasPlayed g n kinds ended (moment h held) left rest) e q in
    record {
      bytes = p.bytes;
      takes = p.takes;
      few = p.few;
      lines = p.lines;
      shown = p.shown;
      kinds_are = p.kinds_are;
      ended = ended;
      boxes_are = p.boxes;
      replayed = p.replayed;
      reports = same-reports ended result before now (flat_map (λ client. client.report.items) clients) (flat_map report_of p.shown)
          (held-reports ended clients p.shown held (many ∙ sym (ap length p.kinds_are) ∙ length-map p.shown (λ box. box.kind)) is p.reports)
          (subst (λ cs. Reports ended result before now (flat_map (λ client. client.report.items) cs)) t r);
    }

-- nothing was read where memory was wanting for the clients
no-order : (g : Setting) (limit count : ℕ) → ArePlayedInOrder g limit count [] []
no-order g limit count shown same i inside = absurd (omega (arith, inside))

pub nothing-replayed : (g : Setting) (limit : ℕ) (kinds : List Kind) (boxes : ℕ → Option Shown) (h : List Entry) (left : Inlet) (now : Outlet) → h ≡ [] → WasReplayed g limit kinds boxes h left left now now (Err NoMemory)
nothing-replayed g limit kinds boxes h left now e = subst (λ q. WasReplayed g limit kinds boxes q left left now now (Err NoMemory)) (sym e) (record {
  bytes = s.stopped.bytes;
  takes = s.stopped.takes;
  few = s.stopped.few;
  lines = [];
  shown = s.shown;
  kinds_are = s.kinds_are;
  ended = Err NoMemory;
  boxes_are = tt;
  replayed = s.stopped.replayed;
  reports = (refl, refl);
})
  where
    s : IsLosing g limit kinds [] [] NoMemory left left
    s = replayed-lost NoMemory g limit kinds [] [] left left tt (no-order g limit (length kinds)) (λ who inside. (untold (get_or kinds who Silent), refl, (refl, refl))) (λ who past. refl)
        (record { bytes = []; takes = Consumes-nil left.left; few = omega arith; first = inl ([], refl) })

-- what holds of how a replay ended, and of that where the reports couldn't be written, holds of what is answered
answered : (P : Result ReplayEnd Stop → Type 0) (ended result : Result ReplayEnd Stop) (before now : Outlet) (reports : List ℕ) → Reports ended result before now reports → P ended → P (unwritten ended) → P result
answered P (Ok by) result before now reports (inl w) p q = subst P (sym w.0) p
answered P (Ok by) result before now reports (inr w) p q = subst P (sym w.0) q
answered P (Err HistoryFull) result before now reports (inl w) p q = subst P (sym w.0) p
answered P (Err HistoryFull) result before now reports (inr w) p q = subst P (sym w.0) q
answered P (Err WriteFault) result before now reports (inl w) p q = subst P (sym w.0) p
answered P (Err WriteFault) result before now reports (inr w) p q = subst P (sym w.0) q
answered P (Err (Broken at)) result before now reports w p q = subst P (sym w.0) p
answered P (Err NoMemory) result before now reports w p q = subst P (sym w.0) p

halts-told : (ended : Result ReplayEnd Stop) (seat : Seated) → Stops ended seat → Halts ended seat
halts-told (Ok by) seat s = tt
halts-told (Err HistoryFull) seat s = s
halts-told (Err (Broken at)) seat s = s
halts-told (Err NoMemory) seat s = tt
halts-told (Err WriteFault) seat s = tt

halts-unwritten : (ended : Result ReplayEnd Stop) (seat : Seated) → Stops ended seat → Halts (unwritten ended) seat
halts-unwritten (Ok end.Over) seat s = tt
halts-unwritten (Ok end.Ended) seat s = tt
halts-unwritten (Ok end.BadClient) seat s = tt
halts-unwritten (Ok end.ReadFault) seat s = tt
halts-unwritten (Ok end.Full) seat s = tt
halts-unwritten (Err HistoryFull) seat s = s
halts-unwritten (Err (Broken at)) seat s = s
halts-unwritten (Err NoMemory) seat s = tt
halts-unwritten (Err WriteFault) seat s = tt

pub halts-answered : (ended result : Result ReplayEnd Stop) (seat : Seated) (before now : Outlet) (reports : List ℕ) → Reports ended result before now reports → Stops ended seat → Halts result seat
halts-answered ended result seat before now reports r s = answered (λ q. Halts q seat) ended result before now reports r (halts-told ended seat s) (halts-unwritten ended seat s)

whole-unwritten : (ended : Result ReplayEnd Stop) (x y : Option ℕ) → StaysWhole ended x y → StaysWhole (unwritten ended) x y
whole-unwritten (Ok end.Over) x y w = w
whole-unwritten (Ok end.Ended) x y w = w
whole-unwritten (Ok end.BadClient) x y w = w
whole-unwritten (Ok end.ReadFault) x y w = w
whole-unwritten (Ok end.Full) x y w = w
whole-unwritten (Err HistoryFull) x y w = w
whole-unwritten (Err (Broken at)) x y w = w
whole-unwritten (Err NoMemory) x y w = w
whole-unwritten (Err WriteFault) x y w = w

pub session-answered : {S K : Type 0} (seated : S → Seated) (kept : S → K) (first x y : S) (ended result : Result ReplayEnd Stop) (before now : Outlet) (reports : List ℕ) → Reports ended result before now reports → x ≡ first → IsSessionStill seated kept ended x y → IsSessionStill seated kept result first y
session-answered seated kept first x y ended result before now reports r e s = subst (λ q. IsSessionStill seated kept result q y) e (record {
  kept_is = s.kept_is;
  limit = s.limit;
  legal = s.legal;
  whole = answered (λ q. StaysWhole q (seated x).mark (seated y).mark) ended result before now reports r s.whole (whole-unwritten ended (seated x).mark (seated y).mark s.whole);
})
