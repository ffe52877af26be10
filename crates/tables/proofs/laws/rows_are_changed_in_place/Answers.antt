use Rattle.tables.proofs.RowLemmas.{first-changed, first-changed_other}
use Rattle.tables.proofs.laws.rows_are_changed_in_place.Goals as goal

pub returns : goal.returns
returns c = record {
  same = λ p f other rows keeps some. first-changed p f other rows keeps some;
  others = λ p q f other rows keeps apart. first-changed_other p q f other rows keeps apart;
}
