-- The names of FFmpeg's pixel formats that are refused, with the reason, and what a name finds (FFmpeg, libavutil/pixdesc.c).
use Prim.Native.String.{String}
use Rattle.std.specs.Prelude.{ℕ, List, [], ◌∷◌, ◌++◌, map, flat_map, position, find, codes, bytes_eq, Option, Some, None, Result, Ok, Err}
use Rattle.desc_table.specs.Format.{formats}
use Rattle.desc_table.specs.declared.fault.FormatFault.{FormatFault}
use Rattle.desc_table.specs.declared.fault.FormatFault.TheVariants.{Unknown, Subsampled, FloatFormat, Bitstream, OtherUnsupported}

-- a refused format: the bytes of its name, and the reason
pub record Refusal : Type 0 where
  pub name : List ℕ
  pub fault : FormatFault

-- refusals of these names for one reason
abbrev pub refuses : FormatFault → List String → List Refusal
refuses fault names = map (λ name. record { name = codes name; fault = fault }) names

-- refusals of these names in both byte orders
abbrev pub refuses_both : FormatFault → List String → List Refusal
refuses_both fault names =
    flat_map (λ name. record { name = codes name ++ codes "le"; fault = fault } ∷ record { name = codes name ++ codes "be"; fault = fault }
    ∷ [])
    names

-- the refused names
unfoldable pub refused : List Refusal
refused =
    refuses Subsampled ("yuv420p" ∷ "yuv422p" ∷ "yuv440p" ∷ "yuv411p" ∷ "yuv410p" ∷ "yuvj420p" ∷ "yuvj422p" ∷ "yuvj440p" ∷ "yuvj411p" ∷ [])
    ++ refuses Subsampled ("yuva420p" ∷ "yuva422p" ∷ "nv12" ∷ "nv21" ∷ "nv16" ∷ "yuyv422" ∷ "yvyu422" ∷ "uyvy422" ∷ "uyyvyy411" ∷ [])
    ++ refuses_both Subsampled ("nv20" ∷ "yuv420p9" ∷ "yuv420p10" ∷ "yuv420p12" ∷ "yuv420p14" ∷ "yuv420p16" ∷ [])
    ++ refuses_both Subsampled ("yuv422p9" ∷ "yuv422p10" ∷ "yuv422p12" ∷ "yuv422p14" ∷ "yuv422p16" ∷ "yuv440p10" ∷ "yuv440p12" ∷ [])
    ++ refuses_both Subsampled ("p010" ∷ "p012" ∷ "p016" ∷ "p210" ∷ "p212" ∷ "p216" ∷ "y210" ∷ "y212" ∷ [])
    ++ refuses_both FloatFormat ("gbrpf32" ∷ "gbrapf32" ∷ "grayf32" ∷ "rgbf32" ∷ "rgbaf32" ∷ "rgbaf16" ∷ [])
    ++ refuses Bitstream ("monow" ∷ "monob" ∷ "rgb4" ∷ "bgr4" ∷ [])
    ++ refuses OtherUnsupported ("bayer_bggr8" ∷ "bayer_rggb8" ∷ "bayer_gbrg8" ∷ "bayer_grbg8" ∷ "vaapi" ∷ "cuda" ∷ "vulkan" ∷ "qsv" ∷ [])
    ++ refuses OtherUnsupported ("videotoolbox_vld" ∷ "vdpau" ∷ "drm_prime" ∷ "opencl" ∷ "mediacodec" ∷ [])
    ++ refuses_both OtherUnsupported ("xyz12" ∷ "gray32" ∷ "xv30" ∷ "v30x" ∷ "xv36" ∷ "xv48" ∷ [])
    ++ refuses_both OtherUnsupported ("yuv444p10msb" ∷ "yuv444p12msb" ∷ "gbrp10msb" ∷ "gbrp12msb" ∷ [])

-- the fault of what was found: its own, and `Unknown` where nothing was
abbrev pub fault_or_unknown : Option Refusal → FormatFault
fault_or_unknown (Some refusal) = refusal.fault
fault_or_unknown None = Unknown

-- why a name that is no format's is refused: the fault of the first refused name that it is, else `Unknown`
unfoldable pub fault_named : List ℕ → FormatFault
fault_named name = fault_or_unknown (find (λ refusal. bytes_eq refusal.name name) refused)

-- the first row that has this name, counted from 0
unfoldable pub row_named : List ℕ → Option ℕ
row_named name = position (λ format. bytes_eq format.name name) formats

-- the row, or else the fault
abbrev pub row_or_fault : Option ℕ → FormatFault → Result ℕ FormatFault
row_or_fault (Some row) fault = Ok row
row_or_fault None fault = Err fault

-- what a name finds: its row in the table, or else why it is refused
unfoldable pub lookup : List ℕ → Result ℕ FormatFault
lookup name = row_or_fault (row_named name) (fault_named name)
