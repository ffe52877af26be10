use Rattle.std.proofs.Common.{ap}
use Rattle.ui_board.specs.Told.{Drawn, Refused}
use Rattle.session_lines.specs.Serving.{telling_bytes}
use Rattle.session_replay.proofs.BoxLemmas.{box-tells}
use Rattle.session_replay.proofs.telling.tell_box.Goals as goal

pub returns-in_ok-tell-in-Drawn-clause-tells : goal.returns-in_ok-tell-in-Drawn-clause-tells
returns-in_ok-tell-in-Drawn-clause-tells g c = box-tells (Drawn c.in-Drawn.drawing) _ _ _ (ap telling_bytes c.in-Drawn.is) c.in_ok-tell-in-Drawn.ensures.ok

pub returns-in_ok-refuse-in-Refused-clause-tells : goal.returns-in_ok-refuse-in-Refused-clause-tells
returns-in_ok-refuse-in-Refused-clause-tells g c = box-tells (Refused c.in-Refused.refusal) _ _ _ (ap telling_bytes c.in-Refused.is) c.in_ok-refuse-in-Refused.ensures.ok
