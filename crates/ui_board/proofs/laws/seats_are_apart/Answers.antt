use Rattle.ui_board.proofs.BoardLemmas.{free-seat, below-free, seated-box, seated-others, left-free, left-others, others-stay}
use Rattle.ui_board.proofs.laws.seats_are_apart.Goals as goal

pub returns : goal.returns
returns c = record {
  was_free = λ seats. free-seat seats;
  least = λ n seats h. below-free n seats h;
  taken = λ box seats. seated-box box seats;
  others = λ n box seats ne. seated-others n box seats ne;
  free = λ n seats. left-free n seats;
  others_left = λ m n seats ne. left-others m n seats ne;
  others_stay = λ m n old new ne stay. others-stay m n old new ne stay;
}
