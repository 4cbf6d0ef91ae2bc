-- The images that kernels run on.
use Rattle.std.specs.Prelude.{◌≡◌, length}
use Rattle.graph_model.specs.declared.write.Kind.{Kind}
use Rattle.graph_model.specs.declared.write.Kind.TheVariants.{Undirected}
use Rattle.graph_model.specs.Graph.{Graph, IsSymmetric}
use Rattle.graph_model.specs.Rows.{all_rows}
use Rattle.graph_image.specs.Images.{Places, IsImageOf}
use Rattle.line_runner.specs.declared.kept.KeptImage.{KeptImage}

-- the image of a graph that a kernel may run on, which is symmetric where the kind is undirected
pub record IsKernelImage (kind : Kind) (image : Places) (g : Graph) : Type 0 where
  pub shows : IsImageOf image g
  pub symmetric : kind ≡ Undirected → IsSymmetric g

-- what is kept of a graph: its image, and how many rows it has
pub record IsKeptImage (g : Graph) (kept : KeptImage) : Type 0 where
  pub shows : IsImageOf kept.image g
  pub counted : kept.rows ≡ length (all_rows g)
