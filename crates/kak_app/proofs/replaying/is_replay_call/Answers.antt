use Rattle.std.proofs.Common.{string_bytes, ◌∙◌}
use Rattle.kak_app.proofs.ReplayLemmas.{call-fits, call-fails, count-fits}
use Rattle.kak_app.proofs.replaying.is_replay_call.Goals as goal

pub say_kinds-requires : goal.say_kinds-requires
say_kinds-requires g c = count-fits _ _ c.if-is_ui_count.ensures

pub returns-then-is_ui_count : goal.returns-then-is_ui_count
returns-then-is_ui_count g c = call-fits (λ word. string_bytes word) (λ ui. (g.U.Ui.shown ui).kind) c.args.words.now c.args.uis.now _ c.if-is_ui_count.ensures c.say_kinds.ensures

pub returns-else-is_ui_count : goal.returns-else-is_ui_count
returns-else-is_ui_count g c = c.if-is_ui_count.false ∙ call-fails (λ word. string_bytes word) (λ ui. (g.U.Ui.shown ui).kind) c.args.words.now c.args.uis.now c.if-is_ui_count.ensures
