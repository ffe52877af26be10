-- What a resize changes.
use Rattle.std.proofs.Common.{◌≡◌, ℕ, refl}
use Rattle.window_view.specs.Sizes.{Dimensions}
use Rattle.kak_world.specs.declared.own.Own.{Own}
use Rattle.kak_world.specs.Flat.{Flat, with_own}
use Rattle.kak_world.proofs.WorldLaws.{own_own, own_other, view_mine, view_other}
use Rattle.kak_engine.specs.Laws.{ResizesChangeSizes}

-- what a client's own is changed to by a resize
abbrev with_size : Dimensions → Own → Own
with_size size = λ o. record o { size = size }

buffers-stay : (who : ℕ) (f : Own → Own) (flat : Flat) → (with_own who f flat).buffers ≡ flat.buffers
unfolding with_own
buffers-stay who f flat = refl

rest-stays : (who : ℕ) (f : Own → Own) (flat : Flat) → (with_own who f flat).rest ≡ flat.rest
unfolding with_own
rest-stays who f flat = refl

pub resizes_change_sizes : ResizesChangeSizes
resizes_change_sizes who size answers flat = record {
  own = λ j. own_own who (with_size size) flat j;
  window = λ j. view_mine who (with_size size) flat j;
  others = λ k apart. own_other k who (with_size size) flat apart;
  other_windows = λ k apart. view_other k who (with_size size) flat apart;
  buffers = buffers-stay who (with_size size) flat;
  rest = rest-stays who (with_size size) flat;
}
