-- Reports: what is put out by a run that reads nothing.
use Rattle.std.specs.Prelude.{◌≡◌, ℕ, zero, suc, ◌*◌, List, [], ◌++◌, length, take, drop, sum, codes, decimal}
use Rattle.pix_desc.specs.Frame.{frame_length}
use Rattle.pix_meaning.specs.declared.pair.Pair.{Pair}
use Rattle.pix_meaning.specs.Target.{target_frame}
use Rattle.op_build.specs.Recipe.{recipe}
use Rattle.op_opt.specs.Normal.{normal}
use Rattle.op_text.specs.Line.{text_of}
use Rattle.frame_slices.specs.declared.frame_slice.Place.{Place}
use Rattle.frame_slices.specs.Generated.{generated}
use Rattle.sws_run.specs.FormatList.{list_text}
use Rattle.sws_run.specs.declared.request.Making.{Making}
use Rattle.sws_run.specs.declared.request.Report.{Report}
use Rattle.sws_run.specs.declared.request.Report.TheVariants as report

-- the length of a frame that is made, which has 512 by 512 pixels
abbrev pub made_length : Pair → ℕ
made_length pair = frame_length pair.from.desc 512 512

-- frame k of the four that are made, one behind the other
abbrev pub made_frame : Making → ℕ → List ℕ
made_frame making k =
    let n = made_length making.pair in
    take n (drop (k * n) (generated making.seed (4 * n)))

-- slices of this size and these formats hold such a frame
pub record IsFrameMade (making : Making) (whole : Place) : Type 0 where
  pub source : making.pair.from.desc ≡ whole.source
  pub target : making.pair.to.desc ≡ whole.target
  pub width : whole.width ≡ 512
  pub height : whole.rows ≡ 512

-- the next frame that is made stood in front, and it is converted to these bytes
pub record ConvertsMade (making : Making) (bytes rest target : List ℕ) : Type 0 where
  pub frame : List ℕ
  pub front : bytes ≡ frame ++ rest
  pub size : length frame ≡ made_length making.pair
  pub converted : target ≡ target_frame making.pair 512 512 frame

-- the target frames of the first k
unfoldable pub made_targets : Making → ℕ → List ℕ
made_targets making zero = []
made_targets making (suc k) = made_targets making k ++ target_frame making.pair 512 512 (made_frame making k)

-- the lines on four frames of so many bytes with this sum
unfoldable pub sum_lines : ℕ → ℕ → List ℕ
sum_lines count total = codes "frames 4\nbytes " ++ decimal count ++ codes "\nsum " ++ decimal total ++ codes "\n"

-- the text of a report: the list of formats, the normal list of a pair, or the number and the sum of the bytes that four frames are
-- converted to
abbrev pub report_text : Report → List ℕ
report_text report.List = list_text
report_text (report.Ops pair) = text_of (normal (recipe pair))
report_text (report.Generate making) = sum_lines (length (made_targets making 4)) (sum (made_targets making 4))

-- how many frames a report is made of
abbrev pub report_frames : Report → ℕ
report_frames report.List = 0
report_frames (report.Ops pair) = 0
report_frames (report.Generate making) = 4
