-- Lines are ordered by their paths.
use Rattle.std.specs.Cmp.{IsTotalOrder}
use Rattle.std.proofs.lemmas.Cmp.{nat_list_cmp_total, on_total}
use Rattle.change_outcome.specs.ConfigurationLines.{path_with_line_cmp_by_path}

pub path_lines_total : IsTotalOrder path_with_line_cmp_by_path
path_lines_total = on_total (λ l. l.path) nat_list_cmp_total
