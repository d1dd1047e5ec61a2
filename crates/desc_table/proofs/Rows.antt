-- Facts about every row of the table, each from one computed test.
use Rattle.std.proofs.Common.{◌≡◌, ℕ, ◌<◌, List, map, length, slice_index_or, get_or, sym, ◌∙◌, ap, refl, arith}
use Rattle.std.specs.Prelude.{Result, Ok, Err, codes, nat_eq}
use Rattle.std.specs.List.{range_with_len, ends_with}
use Rattle.std.proofs.lemmas.List.FromFn.{get_or-map-range_with_len}
use Rattle.pix_desc.specs.Component.{components}
use Rattle.std.proofs.lemmas.List.{get_or-map, length-map}
use Rattle.pix_desc.specs.Layouts.{checked, IsValid}
use Rattle.desc_table.specs.Format.{Format, four_entries, formats, format_count, format_at, no_format}
use Rattle.desc_table.specs.Refused.{refused, fault_named, row_named, lookup}
use Rattle.desc_table.specs.declared.fault.FormatFault.{FormatFault}
use Rattle.desc_table.specs.Layout.{layout_of, word_formats}
use Rattle.desc_table.specs.Row.{format_of}
use Rattle.desc_table.specs.declared.table.Row.{Row}

-- two functions that agree on a list agree on each of its elements
pub agree_at : {X Y : Type 0} (f g : X → Y) (xs : List X) (i : ℕ) (d : X) → map f xs ≡ map g xs → i < length xs
    → f (get_or xs i d) ≡ g (get_or xs i d)
agree_at f g xs i d same below =
    sym (get_or-map f xs i d (f d) below) ∙ (ap (λ ys. get_or ys i (f d)) same ∙ get_or-map g xs i d (f d) below)

-- two functions that agree on the table agree on each of its formats
pub agree_at_row : {X : Type 0} (f g : Format → X) → map f formats ≡ map g formats → (row : ℕ) → row < format_count
    → f (format_at row) ≡ g (format_at row)
unfolding format_at
agree_at_row f g same row below =
    agree_at f g formats row _ same below

-- the program's row is the format of the table
pub format_of-get_or : (rows : List Row) (row : ℕ) (d : Row) → map format_of rows ≡ formats → row < format_count
    → format_of (slice_index_or rows row d) ≡ format_at row
unfolding format_at
format_of-get_or rows row d same below =
    let at : row < length rows = omega (arith, length-map rows format_of, ap length same) in
    sym (get_or-map format_of rows row d no_format at) ∙ ap (λ (fs : List Format). get_or fs row no_format) same

-- each name finds its row
names_computed : map (λ format. lookup format.name) formats ≡ map (λ row. Ok row) (range_with_len 0 format_count)
unfolding formats refused lookup row_named fault_named
names_computed = refl

pub lookup-name_of : (row : ℕ) → row < format_count → lookup (format_at row).name ≡ Ok row
unfolding format_at
lookup-name_of row below =
    sym (get_or-map (λ format. lookup format.name) formats row no_format (Ok row) below)
    ∙ ap (λ (answers : List (Result ℕ FormatFault)). get_or answers row (Ok row)) names_computed
    ∙ get_or-map-range_with_len (λ row. Ok row) 0 format_count row row (Ok row) below (omega arith)

-- each refused name finds its fault
pub refusals_computed : map (λ refusal. lookup refusal.name) refused ≡ map (λ refusal. Err refusal.fault) refused
unfolding formats refused lookup row_named fault_named
refusals_computed = refl

-- the big-endian formats are those whose name ends in `be`
pub orders_computed : map (λ format. format.desc.be) formats ≡ map (λ format. ends_with nat_eq format.name (codes "be")) formats
unfolding formats
orders_computed = refl

-- the entries that a descriptor does not count are zero
pub spare_computed : map (λ format. format.desc.comps) formats ≡ map (λ format. four_entries (components format.desc)) formats
unfolding formats
spare_computed = refl

-- every format passes the check, with the layout that is said of its name
layouts_computed : map (λ format. checked format.desc) formats ≡ map (λ format. Ok (layout_of format.name)) formats
unfolding formats checked layout_of word_formats
layouts_computed = refl

pub checked-desc_of : (row : ℕ) → row < format_count → checked (format_at row).desc ≡ Ok (layout_of (format_at row).name)
checked-desc_of = agree_at_row (λ format. checked format.desc) (λ format. Ok (layout_of format.name)) layouts_computed

pub valid_at : (row : ℕ) → row < format_count → IsValid (format_at row).desc
valid_at row below = record { passes = rw (checked-desc_of row below) }
