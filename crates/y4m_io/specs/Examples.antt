-- Worked lines: what headers and frame lines are, byte by byte, and the header lines that are written.
use Prim.Native.String.{String}
use Rattle.std.specs.Prelude.{◌≡◌, ℕ, List, [], ◌∷◌, ◌++◌, replicate, None, Some, Ok, Err, codes}
use Rattle.std.specs.Result.{result_unwrap_or}
use Rattle.colour_matrix.specs.declared.class.Range.TheVariants.{Full, Limited}
use Rattle.desc_table.specs.Refused.{lookup}
use Rattle.y4m_io.specs.declared.fault.StreamFault.TheVariants.{NoMagic, LineTooLong, BadTag, NoSize, BadSize, BadColour, NoFrameLine}
use Rattle.y4m_io.specs.declared.fault.StreamFault.TheVariants.{Truncated}
use Rattle.y4m_io.specs.declared.header.Header.{Header}
use Rattle.y4m_io.specs.HeaderLine.{header_cut}
use Rattle.y4m_io.specs.FrameLine.{frame_line_cut}
use Rattle.y4m_io.specs.HeaderText.{newline, header_text}

-- the bytes of a line
abbrev pub line : String → List ℕ
line text = codes text ++ newline

-- a format by its name
abbrev pub format : String → ℕ
format name = result_unwrap_or (lookup (codes name)) 0

-- a header of this size and format, and no more
abbrev pub plain : ℕ → ℕ → String → Header
plain width height name = record {
  width = width;
  height = height;
  format = format name;
  range = None;
  rate = None;
  interlace = None;
  aspect
      = None;
}

-- Lines are read so.
pub record WorkedLines : Type 0 where
  pub whole : header_cut (line "YUV4MPEG2 W2 H1 F25:1 Ip A1:1 C444 XYSCSS=444 XCOLORRANGE=LIMITED" ++ codes "FRAME")
      ≡ Ok (record {
        header = record {
          width = 2;
          height = 1;
          format = format "yuv444p";
          range = Some Limited;
          rate = Some (codes "25:1");
          interlace =
              Some (codes "p");
          aspect = Some (codes "1:1");
        };
        size = 66;
      })
  pub deep : header_cut (line "YUV4MPEG2 W1920 H1080 C444p10") ≡ Ok (record { header = plain 1920 1080 "yuv444p10le"; size = 30 })
  pub last_of_repeated : header_cut (line "YUV4MPEG2 W0 Cfoo W00016384 H1  H2048 Cmono12 XCOLORRANGE=LIMITED XCOLORRANGE=FULL")
      ≡ Ok (record { header = record (plain 16384 2048 "gray12le") { range = Some Full }; size = 83 })
  pub empty_text : header_cut (line "YUV4MPEG2 W1 H1 Cmono F") ≡ Ok
      (record { header = record (plain 1 1 "gray") { rate = Some [] }; size = 24 })
  pub many_digits : header_cut (line "YUV4MPEG2 W000000000000000000001 H1 Cmono") ≡ Ok (record { header = plain 1 1 "gray"; size = 42 })
  pub nothing : header_cut [] ≡ Err NoMagic
  pub other_word : header_cut (line "YUV4MPEG20 W1 H1 Cmono") ≡ Err NoMagic
  pub word_alone : header_cut (codes "YUV4MPEG2") ≡ Err Truncated
  pub unknown_tag : header_cut (line "YUV4MPEG2 Q1") ≡ Err BadTag
  pub no_height : header_cut (line "YUV4MPEG2 W2 C444") ≡ Err NoSize
  pub no_tags : header_cut (line "YUV4MPEG2") ≡ Err NoSize
  pub no_width : header_cut (line "YUV4MPEG2 W0 H1 C444") ≡ Err BadSize
  pub too_large : header_cut (line "YUV4MPEG2 W16384 H2049 C444") ≡ Err BadSize
  pub no_colour : header_cut (line "YUV4MPEG2 W2 H1 F25:1 Ip A1:1 XYSCSS=444 XCOLORRANGE=LIMITED") ≡ Err BadColour
  pub other_colour : header_cut (line "YUV4MPEG2 W2 H1 C420") ≡ Err BadColour
  pub frame : frame_line_cut (line "FRAME" ++ 0 ∷ 1 ∷ []) ≡ Ok (Some 6)
  pub frame_with_tags : frame_line_cut (line "FRAMES Ip") ≡ Ok (Some 10)
  pub no_frame : frame_line_cut [] ≡ Ok None
  pub other_frame : frame_line_cut (line "FRAMX") ≡ Err NoFrameLine
  pub short_frame : frame_line_cut (codes "FRA") ≡ Err Truncated
  pub long_frame : frame_line_cut (codes "FRAME" ++ replicate 1020 32) ≡ Err LineTooLong

-- Headers are written so.
pub record WorkedTexts : Type 0 where
  pub defaults : header_text (plain 1 1 "yuv444p") ≡ line "YUV4MPEG2 W1 H1 F25:1 Ip A0:0 C444 XCOLORRANGE=LIMITED"
  pub full : header_text (plain 1 1 "yuvj444p") ≡ line "YUV4MPEG2 W1 H1 F25:1 Ip A0:0 C444 XCOLORRANGE=FULL"
  pub gray : header_text (plain 16384 2048 "gray16le") ≡ line "YUV4MPEG2 W16384 H2048 F25:1 Ip A0:0 Cmono16 XCOLORRANGE=FULL"
  pub copied : header_text (record (plain 1 1 "gray") {
    range = Some Limited;
    rate = Some [];
    interlace = Some (codes "t");
    aspect = Some
        (codes "1:1");
  })
      ≡ line "YUV4MPEG2 W1 H1 F It A1:1 Cmono XCOLORRANGE=LIMITED"
