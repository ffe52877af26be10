use Rattle.std.proofs.Common.{ap₂, ◌∙◌, ℕ, List, codes}
use Rattle.scope_options.specs.declared.scope.Scope.TheVariants.{Window}
use Rattle.scope_options.specs.declared.setting.Setting.{Setting}
use Rattle.scope_options.specs.Settings.{seen_from}
use Rattle.scope_options.specs.Numbers.{number_within}
use Rattle.kak_world.specs.Flat.{indentwidth_of}
use Rattle.kak_world.proofs.world.World.indentwidth.Goals as goal

pub returns-clause-value : goal.returns-clause-value
unfolding indentwidth_of
returns-clause-value g c =
    c.number_seen.ensures.value
    ∙ ap₂ (λ (n : ℕ) (rows : List Setting). number_within 0 64 4 (seen_from (Window c.args.who n) (codes "indentwidth") rows)) c.shown_number.ensures c.options.ensures
