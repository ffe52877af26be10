use Rattle.std.proofs.Common.{[], refl}
use Rattle.ui_board.specs.Told.{Drawn, Refused}
use Rattle.ui_board.proofs.ReportLemmas.{lines-more}
use Rattle.ui_board.proofs.ScreenLemmas.{screen-more}
use Rattle.ui_board.proofs.laws.reports_add_up.Goals as goal

pub returns : goal.returns
returns c = record {
  first = refl;
  json = λ what told. lines-more told what;
  silent = λ told. refl;
  blank = refl;
  drawn = λ drawing told. screen-more [] told (Drawn drawing);
  refused = λ refusal told. screen-more [] told (Refused refusal);
}
