-- The lines so far were drawn, and the first selections end before the next line.
use Rattle.std.proofs.Common.{◌≡◌, ◌≤◌, ℕ, get_or, ◌-◌, [], length, take, drop}
use Rattle.std.specs.List.{AllByRecursion}
use Rattle.text_model.specs.Texts.{joined, lines_of}
use Rattle.face_grounds.specs.Grounds.{Seen}
use Rattle.line_painting.specs.Lines.{drawn_from}
use Rattle.line_painting.specs.Painting.{scene_looks, EndsBefore}
use Rattle.line_painting.proofs.window_lines.draw_lines.Given as goal

abbrev pub invariant-loop-n : goal.invariant-loop-n
invariant-loop-n l = record {
  lines : l.drawn ≡ drawn_from (scene_looks l.scene l.fn.grounds.items) (length (lines_of l.scene.lines.now)) (length (joined (take l.top (lines_of l.scene.lines.now)))) l.top (take (l.n - l.top) (drop l.top (lines_of l.scene.lines.now)));
  few : l.first ≤ length l.scene.sels.now.list;
  before : AllByRecursion (EndsBefore l.n) (take l.first l.scene.sels.now.list);
  long : length l.overlay.grounds.items ≡ length l.fn.grounds.items;
  ahead : (j : ℕ) (d : Seen) → l.n - l.top ≤ j → get_or l.overlay.grounds.items j d ≡ get_or l.fn.grounds.items j d;
  none : l.atoms.atoms ≡ [];
}
