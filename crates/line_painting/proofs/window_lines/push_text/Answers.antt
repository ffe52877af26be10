use Rattle.std.proofs.Common.{◌≡◌, ◌<◌, length, ap, ◌∙◌, arith}
use Rattle.std.proofs.lemmas.Result.{on_ok_weaker}
use Rattle.std.proofs.lemmas.List.{get_or_read}
use Rattle.compact_chars.specs.Rows.{chars_of}
use Rattle.text_model.specs.Texts.{nth_line}
use Rattle.kak_faces.specs.Standard.{default_face}
use Rattle.face_grounds.specs.Grounds.{Seen, everywhere, ground_at}
use Rattle.line_painting.specs.Painting.{line_start, looks_over, slice_index_seen}
use Rattle.line_painting.proofs.DrawnLemmas.{text-drawn}
use Rattle.line_painting.proofs.window_lines.push_text.Goals as goal

pub returns : goal.returns
returns c =
    let g : Seen = slice_index_seen c.args.overlay.now.grounds.items c.args.k in
    let inside : c.args.k < length c.lay_line.new.overlay.grounds.items = omega (arith, c.requires.base, c.in_ok-lay_line.ensures.others.same) in
    let read : c.index.result.now ≡ slice_index_seen c.lay_line.new.overlay.grounds.items c.args.k =
    get_or_read c.lay_line.new.overlay.grounds.items c.args.k c.index.result.now inside c.index.ensures (everywhere default_face) in
    record {
      drawn = on_ok_weaker c.push_ground.result
          (λ e. text-drawn (looks_over c.args.scene (λ m i. ground_at (slice_index_seen c.args.overlay.now.grounds.items c.args.k) i)) c.index.result.now (line_start c.args.scene.lines.now c.args.n) c.args.n
          (nth_line c.args.scene.lines.now c.args.n) (chars_of c.line-line.result) c.args.atoms.now.atoms c.push_ground.new.atoms.atoms c.line-line.ensures.value
          (λ i x. ap (λ (s : Seen). ground_at s i) read ∙ c.in_ok-lay_line.ensures.laid i x) e)
          c.push_ground.ensures;
      others = on_ok_weaker c.push_ground.result (λ e. c.in_ok-lay_line.ensures.others) c.push_ground.ensures;
    }
