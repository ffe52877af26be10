use Rattle.tables.proofs.TableLemmas.{first-put_same, first-put_other}
use Rattle.tables.proofs.laws.rows_are_put_in_place.Goals as goal

pub returns : goal.returns
returns c = record {
  same = λ p row other rows h. first-put_same p row other rows h;
  others = λ p q row other rows apart h. first-put_other p q row other rows apart h;
}
