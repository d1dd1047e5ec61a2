-- The range that a format is taken to have where nothing is said of it.
use Rattle.std.specs.Prelude.{ℕ, Bool, not, ◌&&◌, if◌then◌else◌, nat_le, codes}
use Rattle.std.specs.Str.{bytes_eq}
use Rattle.colour_matrix.specs.declared.class.Range.{Range}
use Rattle.colour_matrix.specs.declared.class.Range.TheVariants.{Full, Limited}
use Rattle.pix_desc.specs.declared.desc.Desc.{Desc}
use Rattle.desc_table.specs.Format.{desc_of, name_of}

-- a format of luma and chroma
abbrev pub has_chroma : Desc → Bool
has_chroma desc = not desc.rgb && nat_le 3 desc.count

-- Formats with chroma have limited codes, but yuvj444p has all (libavutil/pixfmt.h: "full scale (JPEG)"); gray and RGB formats have all.
abbrev pub default_range : ℕ → Range
default_range id = if has_chroma (desc_of id) && not (bytes_eq (name_of id) (codes "yuvj444p")) then Limited else Full
