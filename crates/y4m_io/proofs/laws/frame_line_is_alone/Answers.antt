use Rattle.y4m_io.proofs.LineShapes.{frame_line_cut-size, frame_line_cut-alone, frame_line_cut-inside, frame_line_cut-unfinished}
use Rattle.y4m_io.proofs.laws.frame_line_is_alone.Goals as goal

pub returns : goal.returns
returns c = record {
  size = frame_line_cut-size;
  alone = frame_line_cut-alone;
  inside = frame_line_cut-inside;
  unfinished =
      frame_line_cut-unfinished;
}
