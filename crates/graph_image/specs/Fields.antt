-- What contracts see of an image's fields.
use Rattle.std.specs.Prelude.{◌<◌, ◌^◌, length, unwrap_or}
use Rattle.graph_image.specs.declared.image.Image.TheInside.{Inside}
use Rattle.graph_image.specs.Images.{Places, IdsRise}
use Rattle.graph_image.specs.Edges.{IsListed}

-- without an array of its own for the arcs in, that of the arcs out serves
abbrev pub places_of : Inside → Places
places_of image = record {
  vertices = image.vertices.items;
  out = image.out;
  into = unwrap_or image.into image.out;
}

-- the vertices rise, and each place has its lists
pub record IsImage (places : Places) : Type 0 where
  pub ids : IdsRise places.vertices
  pub few : length places.vertices < 2 ^ 32
  pub out : IsListed (length places.vertices) places.out
  pub into : IsListed (length places.vertices) places.into
