use Rattle.std.proofs.Common.{◌≡◌, ◌<◌, ℕ, ◌-◌, List, [], ◌++◌, ◌∷◌, length, take, drop, get_or, refl, sym, ap, ap₂, subst, ◌∙◌, arith}
use Rattle.text_model.specs.Texts.{joined, lines_of}
use Rattle.selection_set.specs.declared.sel.Sel.{Sel}
use Rattle.kak_faces.specs.Standard.{default_face}
use Rattle.face_grounds.specs.Grounds.{Seen, everywhere}
use Rattle.line_painting.specs.Lines.{line_drawn, drawn_from}
use Rattle.line_painting.specs.Painting.{line_on, slice_index_seen, scene_looks}
use Rattle.line_painting.proofs.WindowLemmas.{window-more, window-all, lines-length}
use Rattle.line_painting.proofs.OverLemmas.{ends-upto, ends-next}
use Rattle.line_painting.proofs.window_lines.draw_lines.Goals as goal

pub loop-n-init : goal.loop-n-init
loop-n-init c =
    let z : c.min-top.result - c.min-top.result ≡ 0 = omega arith in
    let ls : List (List ℕ) = lines_of c.args.scene.lines.now in
    record {
      lines = c.new-drawn.ensures
          ∙ ap (λ n. drawn_from (scene_looks c.args.scene c.args.grounds.items) (length (lines_of c.args.scene.lines.now)) (length (joined (take c.min-top.result (lines_of c.args.scene.lines.now)))) c.min-top.result (take n (drop c.min-top.result (lines_of c.args.scene.lines.now)))) (sym z);
      few = omega arith;
      before = tt;
      long = refl;
      ahead = λ j d h. refl;
      none = c.new-atoms.ensures;
    }

pub first_reaching-first-requires : goal.first_reaching-first-requires
first_reaching-first-requires c = omega (arith, c.loop-n.invariant.few, ap length c.as_slice.ensures.value)

pub draw_line-requires-clause-before : goal.draw_line-requires-clause-before
draw_line-requires-clause-before c =
    ends-upto c.args.scene.lines.now c.args.scene.sels.now c.loop-n.n c.loop-n.first c.first_reaching-first.result c.requires.held (omega (arith, c.first_reaching-first.ensures.within, ap length c.as_slice.ensures.value)) c.loop-n.invariant.before c.first_reaching-first.ensures.from
    (λ l d. subst (λ (list : List Sel). (d : Sel) → (get_or list (c.first_reaching-first.result - 1) d).high.line < c.loop-n.n) c.as_slice.ensures.value (c.first_reaching-first.ensures.before l) d)

pub draw_line-requires-clause-base : goal.draw_line-requires-clause-base
draw_line-requires-clause-base c =
    omega (
      arith,
      c.loop-n.invariant.long,
      c.requires.grounds,
      lines-length (lines_of c.args.scene.lines.now) c.args.scene.frame.window.top c.args.scene.frame.window.rows,
      c.loop-n.auto.n,
      c.loop-n-test.true,
      c.min-top.ensures,
      c.min-below.ensures,
      c.from.ensures,
      c.line_count-count.ensures.value,
    )

pub loop-n-preserved : goal.loop-n-preserved
loop-n-preserved c =
    let there : c.loop-n.n < length (lines_of c.args.scene.lines.now) = omega (arith, c.loop-n-test.true, c.min-below.ensures, c.line_count-count.ensures.value) in
    let top : c.min-top.result ≡ c.args.scene.frame.window.top = omega (arith, c.min-top.ensures, c.line_count-count.ensures.value, c.loop-n.auto.n, there) in
    let at : c.loop-n.n - c.min-top.result ≡ c.loop-n.n - c.args.scene.frame.window.top = ap (λ k. c.loop-n.n - k) top in
    let base : slice_index_seen c.loop-n.overlay.grounds.items (c.loop-n.n - c.min-top.result) ≡ slice_index_seen c.args.grounds.items (c.loop-n.n - c.args.scene.frame.window.top) =
    c.loop-n.invariant.ahead (c.loop-n.n - c.min-top.result) (everywhere default_face) (omega arith) ∙ ap (λ k. slice_index_seen c.args.grounds.items k) at in
    let line : c.in_ok-line.line ≡ line_drawn (scene_looks c.args.scene c.args.grounds.items) (length (lines_of c.args.scene.lines.now)) (length (joined (take c.loop-n.n (lines_of c.args.scene.lines.now)))) c.loop-n.n (get_or (lines_of c.args.scene.lines.now) c.loop-n.n []) =
    c.in_ok-line.ensures.drawn ∙ ap (λ (g : Seen). line_on c.args.scene g c.loop-n.n) base in
    record {
      lines =
          c.in_ok-push.ensures.ok
          ∙ ap₂ (λ a b. a ++ b ∷ []) c.loop-n.invariant.lines line
          ∙ window-more (scene_looks c.args.scene c.args.grounds.items) (length (lines_of c.args.scene.lines.now)) (lines_of c.args.scene.lines.now) c.min-top.result c.loop-n.n c.loop-n.auto.n there;
      few = omega (arith, c.first_reaching-first.ensures.within, ap length c.as_slice.ensures.value);
      before = ends-next c.loop-n.n c.first_reaching-first.result c.args.scene.sels.now.list
          (ends-upto c.args.scene.lines.now c.args.scene.sels.now c.loop-n.n c.loop-n.first c.first_reaching-first.result c.requires.held (omega (arith, c.first_reaching-first.ensures.within, ap length c.as_slice.ensures.value)) c.loop-n.invariant.before c.first_reaching-first.ensures.from
          (λ l d. subst (λ (list : List Sel). (d : Sel) → (get_or list (c.first_reaching-first.result - 1) d).high.line < c.loop-n.n) c.as_slice.ensures.value (c.first_reaching-first.ensures.before l) d));
      long = c.in_ok-line.ensures.others.same ∙ c.loop-n.invariant.long;
      ahead = λ j d h. c.in_ok-line.ensures.others.others j d (omega (arith, h, c.loop-n.auto.n)) ∙ c.loop-n.invariant.ahead j d (omega (arith, h));
      none = c.in_ok-line.ensures.left;
    }

pub returns : goal.returns
returns c =
    c.loop-n.invariant.lines
    ∙ window-all (scene_looks c.args.scene c.args.grounds.items) (length (lines_of c.args.scene.lines.now)) (lines_of c.args.scene.lines.now) c.min-top.result c.loop-n.n
    (omega (arith, c.min-top.ensures, c.line_count-count.ensures.value))
    (omega (arith, c.min-below.ensures, c.from.ensures, c.line_count-count.ensures.value, c.loop-n-test.false, c.loop-n.auto.n-end, c.min-top.ensures))
