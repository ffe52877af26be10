use Rattle.std.proofs.Common.{◌≡◌, ◌<◌, true, false, length, string_bytes, sym, ap, ◌∙◌, arith}
use Rattle.kak_app.specs.Replays.{says_kind}
use Rattle.kak_app.proofs.ReplayLemmas.{kinds-more, kinds-differ, kinds-last}
use Rattle.kak_app.proofs.replaying.say_kinds.Goals as goal

pub loop-n-preserved : goal.loop-n-preserved
loop-n-preserved g c =
    let inside : c.loop-n.n < length c.args.uis.now = omega (arith, c.loop-n-test.true, c.requires) in
    let said : says_kind (string_bytes c.index-words-n.result) (g.U.Ui.shown c.index-uis-n.result).kind ≡ true =
    ap (says_kind (string_bytes c.index-words-n.result)) (sym c.kind.ensures) ∙ ap (λ w. says_kind w c.kind.result) (sym c.as_str.ensures.value) ∙ sym c.says_kind.ensures ∙ c.if-not-says_kind.false in
    kinds-more (λ word. string_bytes word) (λ ui. (g.U.Ui.shown ui).kind) c.args.words.now c.args.uis.now c.loop-n.n c.index-words-n.result c.index-uis-n.result c.loop-n-test.true inside c.index-words-n.is c.index-uis-n.is said c.loop-n.invariant

pub returns-then-not-says_kind : goal.returns-then-not-says_kind
returns-then-not-says_kind g c =
    let inside : c.loop-n.n < length c.args.uis.now = omega (arith, c.loop-n-test.true, c.requires) in
    let said : says_kind (string_bytes c.index-words-n.result) (g.U.Ui.shown c.index-uis-n.result).kind ≡ false =
    ap (says_kind (string_bytes c.index-words-n.result)) (sym c.kind.ensures) ∙ ap (λ w. says_kind w c.kind.result) (sym c.as_str.ensures.value) ∙ sym c.says_kind.ensures ∙ c.if-not-says_kind.true in
    kinds-differ (λ word. string_bytes word) (λ ui. (g.U.Ui.shown ui).kind) c.args.words.now c.args.uis.now c.loop-n.n c.index-words-n.result c.index-uis-n.result c.loop-n-test.true inside c.index-words-n.is c.index-uis-n.is said c.loop-n.invariant

pub returns : goal.returns
returns g c = kinds-last (λ word. string_bytes word) (λ ui. (g.U.Ui.shown ui).kind) c.args.words.now c.args.uis.now c.loop-n.n c.loop-n-test.false c.requires c.loop-n.invariant
