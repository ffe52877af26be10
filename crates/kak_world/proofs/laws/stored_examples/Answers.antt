use Rattle.std.proofs.Common.{arith, ◌≡◌, true, false, refl, sym, ap, ◌∙◌}
use Rattle.std.specs.Prelude.{◌||◌}
use Rattle.list_shelf.specs.declared.holder.Holder.TheVariants.{Of}
use Rattle.list_shelf.specs.declared.rows.ShelfRow.{ShelfRow}
use Rattle.list_shelf.proofs.StoreLemmas.{holders-apart}
use Rattle.list_shelf.proofs.StayLemmas.{lag-leaves}
use Rattle.kak_world.specs.Stored.{nothing_since}
use Rattle.kak_world.specs.StoredExamples.{row_at, at_stamps}
use Rattle.kak_world.proofs.laws.stored_examples.Goals as goal

pub returns : goal.returns
returns c = record {
  ones_own_may_be_brought_up = λ _ _ other apart has. lag-leaves (Of 7) other (λ lag. record { stamp = 2; sels = lag.sels }) (at_stamps 0 0 nothing_since).shelf apart has;
  anothers_may_not = λ h.
      let row = (h refl refl (Of 9) refl refl).same in
      absurd (let no : 2 ≡ 0 = ap (λ (r : ShelfRow). r.lag.stamp) row in omega (arith, no));
  nor_be_taken_away = λ h. absurd (let no : false ≡ true = (h refl refl (Of 9) refl refl).there in cc);
  where_the_log_began_again = λ _ again. absurd (let no : true ≡ false = again in cc);
  or_the_buffer_is_another = λ fresh. absurd (let no : true ≡ false = fresh in cc);
  or_it_was_dropped = tt;
  shown_for_the_first_time = λ _ _ other apart has.
      absurd (let no : false ≡ true = sym (ap (λ b. b || false) (holders-apart (Of 7) other apart (row_at 7 0) refl)) ∙ has in cc);
}
