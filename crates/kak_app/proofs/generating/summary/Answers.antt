use Rattle.std.proofs.Common.{◌≡◌, List, ℕ, ◌++◌, length, sym, ap, ap₂, ◌∙◌, arith, append_assoc, append-nil, add-one}
use Rattle.text_model.specs.Texts.{line_count}
use Rattle.session_draws.specs.Summary.{head_text, sels_line}
use Rattle.kak_world.specs.Flat.{text_of, sels_of}
use Rattle.kak_engine.specs.Steps.{run}
use Rattle.kak_app.specs.Generated.{sels_lines, summary_of}
use Rattle.kak_app.proofs.GenLemmas.{head-same}
use Rattle.kak_app.proofs.generating.summary.Goals as goal

pub chars-requires-clause-here : goal.chars-requires-clause-here
chars-requires-clause-here g c = c.requires.here 0 c.requires.some

pub lines-requires-clause-here : goal.lines-requires-clause-here
lines-requires-clause-here g c = c.requires.here 0 c.requires.some

pub sels-requires-clause-here : goal.sels-requires-clause-here
sels-requires-clause-here g c = c.requires.here c.loop-who.who c.loop-who-test.true

pub loop-who-init : goal.loop-who-init
loop-who-init g c = record {
  lines = c.in_ok-text.ensures ∙ head-same _ _ _ _ _ _ c.count.ensures c.chars.ensures c.lines.ensures ∙ sym (append-nil _);
  within = omega arith;
}

pub loop-who-preserved : goal.loop-who-preserved
loop-who-preserved g c =
    let flat = run c.args.engine.now.history in
    let head = head_text (length c.args.engine.now.history) (length (text_of 0 flat)) (line_count (text_of 0 flat)) in
    let line = c.as_str.ensures.value ∙ c.in_ok-line.ensures ∙ ap (sels_line c.loop-who.who) c.in_ok-sels.ensures in
    record {
      lines = c.in_ok-push_str.ensures.bytes
          ∙ ap₂ (λ (text : List ℕ) (more : List ℕ). text ++ more) c.loop-who.invariant.lines line
          ∙ append_assoc head (sels_lines flat c.loop-who.who) (sels_line c.loop-who.who (length (sels_of c.loop-who.who flat).list))
          ∙ ap (λ n. head ++ sels_lines flat n) (sym (add-one c.loop-who.who));
      within = omega (arith, c.loop-who-test.true);
    }

pub returns : goal.returns
returns g c =
    let all : c.loop-who.who ≡ c.args.clients = omega (arith, c.loop-who.invariant.within, c.loop-who-test.false) in
    c.loop-who.invariant.lines ∙ ap (λ n. summary_of n c.args.engine.now.history) all
