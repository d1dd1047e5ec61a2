-- Values that are bytes of one plane, in another order.
use Rattle.std.specs.Prelude.{ℕ, List, ◌≡◌, ◌+◌, ◌<◌, ◌≤◌, take}
use Rattle.std.specs.Prelude.{sum, slice_index}

-- each of the `count` values from[before] and those behind it is a byte of this plane, which has so many bytes a pixel
pub record IsOrder (planes from : List ℕ) (count before plane : ℕ) (places : List ℕ) : Type 0 where
  pub some : 2 ≤ count
  pub inside : plane < 4
  pub whole : slice_index planes plane ≡ count
  pub small : (e : ℕ) → e < count → slice_index places e < count
  pub values : (e : ℕ) → e < count → slice_index from (before + e) ≡ sum (take plane planes) + slice_index places e
