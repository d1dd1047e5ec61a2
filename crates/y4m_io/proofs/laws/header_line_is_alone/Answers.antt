use Rattle.y4m_io.proofs.LineShapes.{header_cut-size, header_cut-alone, header_cut-inside, header_cut-unfinished}
use Rattle.y4m_io.proofs.laws.header_line_is_alone.Goals as goal

pub returns : goal.returns
returns c = record { size = header_cut-size; alone = header_cut-alone; inside = header_cut-inside; unfinished = header_cut-unfinished }
