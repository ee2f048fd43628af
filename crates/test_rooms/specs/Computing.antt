-- One name for all that the rooms compute with: to unfold it is to unfold these.
use Rattle.std.specs.Float.Ieee.{add, sub, mul, div, lt, le, eq, of_bits, to_bits, of_int, round, to_unsigned, is_nan, neg, size, odd}
use Rattle.arith_root.specs.Ensures.{units_of}
use Rattle.arith_root.specs.Root.{mag, SquareRoot, isqrt, rounded, root}
use Rattle.arith.specs.Bytes.{le32, le64, float_at, vec_at, read_all}
use Rattle.arith.specs.F64.{finite, abs, signed, fmin, fmax, clamp, nearer, within, ceilℕ}
use Rattle.arith.specs.Lists.{fold, any_of, all_of, count_where, first_from, only, flatten, add_new, insert_before, sort, sides_with, windows, sides, same, sorted}
use Rattle.arith.specs.Polygon.{crosses, even_odd}
use Rattle.arith.specs.Records.{tab, up_to}
use Rattle.arith.specs.Sort.{place_in}
use Rattle.arith.specs.Vec.{plus, minus, times, over, dot, norm_squared, norm, cross, each3}
use Rattle.arith_angles.specs.Angle.{leftward, quarter, slope, angle_of, precedes, turns_before}
use Rattle.arith_angles.specs.Sort.{angle_at, earlier, sorted_places, comparable}
use Rattle.arith_angles.specs.Stable.{those, tie, InOrder}
use Rattle.arith_bytes.specs.Stored.{le_bytes, all_bytes, stored}
use Rattle.lines_millimetres.specs.Nearest.{Picked, numerator, denominator, half_of, settled, whole, millimetres, under2^53, word64, same_number}
use Rattle.reading.specs.After.{done, Named}
use Rattle.reading.specs.Asks.{◌>>=◌}
use Rattle.reading.specs.Result.{◌>>=◌ as ◌>>=◌-2, refuse, steps, map_all}
use Rattle.answers.specs.Answer.{fitting, answer_words, header_of}
use Rattle.answers.specs.Ensures.{length_of, words_of, decided, replied}
use Rattle.answers.specs.Words.{vec_words, point_words, values_words}
use Rattle.lines_words.specs.Pen.{width, next_word, is_repeated, one_more, sheet_pen_after, sheet_words_of, styled_pen, pen_after, styled_words, added_words, words_along, pen_along}
use Rattle.lines_words.specs.Sheet.{sheet_point, is_same, listed_after, listed, sheet_point_words, sheet_words}
use Rattle.lines_words.specs.Words.{line_words}
use Rattle.mesh_area.specs.Layout.{points_in, mesh_words, mesh_floats, list_at, vec_from, found, face_in, cell_in, faces_in, cells_in, mesh_in}
use Rattle.mesh_area.specs.Tables.{point_at, face_at, cell_at}
use Rattle.case_file.specs.Field.{blank, outside, cells_of, zero_values, values_in, values_of, zone_in, zone_of, zones_of, is_at_most, zones_within}
use Rattle.case_file.specs.Trailer.{trailer_word, edition_of, dimension_of, counts_of, words_from, field_from, pressures_from, zones_from, zone_bytes, trailer_from, is_dimension, has_offsets, has_zones, has_parts, trailer_right, over_limit, opened, words_in, words_of as words_of-2}
use Rattle.case_definitions.specs.Ensures.{listed as listed-2, list_at as list_at-2, skipped, first_of, head_of, cursor_at, stepped, step_at, walked, walked_faces, read_of, definition_at, face_at as face_at-2}
use Rattle.case_definitions.specs.Definitions.{numbers, counted, face_lists, made, kinds, definition, definitions}
use Rattle.case_definitions.specs.Faces.{tetrahedron, hexahedron, prism, pyramid, ends, picked, faces_of, face_count, add_face_count, faces_counted}
use Rattle.case_faces.specs.Ensures.{face_from, next_face, table_of, places_of}
use Rattle.case_survey.specs.Survey.{survey_of}
use Rattle.mesh_keys.specs.Keys.{total}
use Rattle.mesh_numbers.specs.Numbers.{insert_new, rising, insert_below, numbers_in}
use Rattle.mesh_averages.specs.Averages.{add_point, average}
use Rattle.mesh_geometry.specs.Ensures.{vector_of, face_of}
use Rattle.mesh_geometry.specs.Faces.{turned_edge, add_cross, vector_in, area_vector, enough, long_enough, face_area_vector, face_with, measured, inward, turned_if, oriented_face, left_order}
use Rattle.mesh_volumes.specs.Geometry.{no_weight, add_part, twice_area, add_triangle, centre_2d, tetrahedron_volume, add_volume, add_tetrahedron, add_tetrahedra, tetrahedra_of, add_face_3d, centre_3d, geometry_in, cell_geometry, cell_of}
use Rattle.mesh_face_table.specs.Chains.{last}
use Rattle.mesh_face_table.specs.Records.{face_words_of, face_words_in, measured_of, measured_in, face_of as face_of-2, table_in, head_in, new_face_at}
use Rattle.mesh_faces.specs.Ensures.{words_after, floats_after}
use Rattle.mesh_faces.specs.Table.{has_key, face_with_key, new_face, with_neighbour, joining, settled as settled-2, use_face, numbered_face, add_face}
use Rattle.mesh_neighbours.specs.Neighbours.{other_cell, beyond, add_found, add_neighbour, neighbours_of, linked_at, linked}
use Rattle.mesh_orientation.specs.Orientation.{behind, neighbour_behind, misplaced}
use Rattle.mesh_coordinates.specs.Coordinates.{acceptable}
use Rattle.mesh_connection.specs.Connection.{some_below, every_below, one_round, rounds, connected_by, sides_are, joins, share, connected, are_neighbours, connected_cells}
use Rattle.mesh_connection.specs.Ensures.{count_below}
use Rattle.planes_cut.specs.Ensures.{bare, face_vertex, sign_with, no_signs, add_sign, face_signs, signs_of, may_meet}
use Rattle.planes_cut.specs.Cut.{widest, farthest, eps_of, tolerance, cut_of, height, near, below, above}
use Rattle.planes_cut.specs.Plane.{finite_axes, not_unit, not_orthogonal, invalid, origin_beyond, validated, normal_of, along}
use Rattle.lines_bins.specs.Index.{reaches, in_bin, pool_in, passed}
use Rattle.lines_polygon.specs.Contains.{between, on_line, on_edge, position, position_word, is_within, contains}
use Rattle.lines_polygon.specs.Extent.{limits_from, misses, end_within, run, is_level, crossing_within, side_within, reach, left_reach, sideless, widened, spared, narrowest, unlimited, limits_of}
use Rattle.lines_polygon.specs.Vertices.{pair_from, pairs_from, side_from, xy_within}
use Rattle.lines_locate.specs.Bins.{bin_along, bin_for, no_polygon, cell_polygon_at, is_listed}
use Rattle.lines_locate.specs.Ensures.{first_holding, nowhere}
use Rattle.lines_locate.specs.Field.{zone_at, searching, zoned, staying}
use Rattle.lines_locate.specs.Layout.{count_in, polygon_in, bin_from, cell_polygon_in, cell_polygons_in, field_in}
use Rattle.lines_locate.specs.Locate.{is_found, xy_of, is_searched, holds, locate_where, locate, position_in, with_position, located, FoundWithin, AtOrBelow}
use Rattle.lines_locate.specs.Ranges.{index_at, index_along, index_bin, first_bin, last_bin}
use Rattle.planes_crossings.specs.Ensures.{point_in, slice_points, side_at, crossing_of}
use Rattle.planes_crossings.specs.Crossings.{close, rises, parted, between as between-2, add_end, add_between, add_crossing, shared, on_plane, foreign, add_side, add_face as add_face-2, crossings}
use Rattle.planes_sections.specs.Ensures.{piece_in, vertices_of, arranged_about, arranged_of, angle_on}
use Rattle.planes_sections.specs.Intersect.{earlier_on, add_area, area_of, section_centre, wide, piece_about, piece_of, pieces_from, intersect}
use Rattle.planes_sums.specs.Integrals.{no_integral, weighing, is_valid, add_integral, finite_integral, no_integrals, integral_words, integrals_from, integrals}
use Rattle.planes_sums.specs.Kept.{sums_of, integral_of, sample_sums_of, summing_of, weighing_of, add_probed, add_to, written, used_of, size_of}
use Rattle.planes_sums.specs.Probe.{project, covers, first_over, off_plane, probe}
use Rattle.planes_sums.specs.Sample.{has_finite_values, add_vector, vector_of as vector_of-2, measure_of}
use Rattle.planes_sums.specs.Statistics.{scalar_of, no_sums, including, counted as counted-2, summing, add_sample, finite_sums, empty, fraction_words, statistics_words, statistics_from, statistics}
use Rattle.planes_sums.specs.Words.{sample_words}
use Rattle.planes_samples.specs.Ensures.{accumulated_of, written_all, stream}
use Rattle.planes_samples.specs.Sampling.{before, onward, taken, complete, sample}
use Rattle.planes.specs.Answers.{section_words, probe_words, sampled, section_of, statistics_of, integrals_of, probe_of}
use Rattle.planes.specs.Ensures.{left_by, statistics_end, integrals_end, ended, last_words, missing}
use Rattle.mesh_measure.specs.Ensures.{faces_at, weight_of}
use Rattle.mesh_points.specs.Collect.{wrong_kind, missing as missing-2, reference_of, checked}
use Rattle.mesh_cell_parts.specs.Parts.{measured_from, add_face_of}
use Rattle.mesh_cells.specs.Cells.{add_cell, partial_mesh}
use Rattle.mesh_cells.specs.Ensures.{read}
use Rattle.mesh_cells.specs.Partial.{partial_cell_in, partial_cells_in}
use Rattle.mesh_centres.specs.Ensures.{geometry_at}
use Rattle.mesh_centres.specs.Finish.{finished, finished_as}
use Rattle.mesh.specs.Case.{area_short, mesh_of, case_faces, mesh_from}
use Rattle.mesh.specs.Ensures.{built_as, sizes_for, LaidOut, partial_mesh_in}
use Rattle.mesh.specs.Mesh.{joined, completed, filled, from_cells}
use Rattle.lines_field.specs.Bins.{listed_in, aspect, bin_counts, are_flat, are_many}
use Rattle.lines_field.specs.Bounds.{boundless, widened as widened-2, bounds_of}
use Rattle.lines_field.specs.Ensures.{polygons_in, vertices_in, bin_word, listed_span}
use Rattle.lines_field.specs.Field.{polygons_of, grid_for, grid_of, field_of}
use Rattle.lines_field.specs.Vertices.{alike, add_vertex, add_vertices, cell_vertices, about, turns_about, polygon_of}
use Rattle.lines_velocity.specs.Ensures.{tracer_field, tracer_searching, tracer_staying, vertices_within}
use Rattle.lines_velocity.specs.Velocity.{located_in, locate_in, centre_of, neighbours_of as neighbours_of-2, distance_squared, nearer_of, nearest_of, blended, apart, beside_if, beside, beside_nearest, toward, velocity_in, velocity_where, velocity_at, from, unit, direction_at}
use Rattle.lines_step.specs.RungeKutta.{weighed, fourth, third, second, runge_kutta}
use Rattle.lines_step.specs.Step.{here_if, rk4_step, within_length, step}
use Rattle.lines.specs.Line.{sign, signed_step, zone_found, home_of, onward as onward-2, line_from, points_after, line, is_length, is_speed, are_accepted, is_nowhere, nowhere as nowhere-2, line_answer, integrate}
use Rattle.lines.specs.Rake.{seed_at, seeds, lines_words, integrate_rake}
use Rattle.job_requests.specs.Bounds.{Allowed}
use Rattle.job_requests.specs.Codes.{row, unknown, codes, code_of, is_unknown}
use Rattle.job_requests.specs.Encode.{bytes_of}
use Rattle.job_requests.specs.Requests.{words_at, requests_in, number, real, point, refuse_if, unless, unused_set, bad_direction, ill_formed, wrong_dimension, direction, options, settings, streamline, rake_of, rake, over_field, plane_of, statistics as statistics-2, over_plane, planar, search_of, plain_code, is_planar, by_code, request_of}
use Rattle.job_room.specs.Ensures.{room_in, counts_in, Servable, Shortage}
use Rattle.job_room.specs.Room.{room_from, room_of, requests_wrong, shortage, prepared}
use Rattle.job_serve.specs.Ensures.{left_under}
use Rattle.job_serve.specs.Serve.{cell_word, located_words, velocity_words, serve_flat, serve_solid, serve}
use Rattle.job_promise.specs.Ensures.{answer_to}
use Rattle.job_promise.specs.Job.{job_of, outcome, number_of, result_of}
use Rattle.job_promise.specs.List.{is_flat, reply_to, serve_all}

unfoldable pub computing : Unit {0}
unfolding add sub mul div lt le eq of_bits to_bits of_int round to_unsigned is_nan neg size odd units_of mag SquareRoot isqrt rounded root le32 le64 float_at vec_at read_all finite abs signed fmin fmax clamp nearer within ceilℕ fold any_of all_of count_where first_from only flatten add_new insert_before sort sides_with windows sides same sorted crosses even_odd tab up_to place_in plus minus times over dot norm_squared norm cross each3 leftward quarter slope angle_of precedes turns_before angle_at earlier sorted_places comparable those tie InOrder le_bytes all_bytes stored Picked numerator denominator half_of settled whole millimetres under2^53 word64 same_number done Named ◌>>=◌ ◌>>=◌-2 refuse steps map_all fitting answer_words header_of length_of words_of decided replied vec_words point_words values_words width next_word is_repeated one_more sheet_pen_after sheet_words_of styled_pen pen_after styled_words added_words words_along pen_along sheet_point is_same listed_after listed sheet_point_words sheet_words line_words points_in mesh_words mesh_floats list_at vec_from found face_in cell_in faces_in cells_in mesh_in point_at face_at cell_at blank outside cells_of zero_values values_in values_of zone_in zone_of zones_of is_at_most zones_within trailer_word edition_of dimension_of counts_of words_from field_from pressures_from zones_from zone_bytes trailer_from is_dimension has_offsets has_zones has_parts trailer_right over_limit opened words_in words_of-2 listed-2 list_at-2 skipped first_of head_of cursor_at stepped step_at walked walked_faces read_of definition_at face_at-2 numbers counted face_lists made kinds definition definitions tetrahedron hexahedron prism pyramid ends picked faces_of face_count add_face_count faces_counted face_from next_face table_of places_of survey_of total insert_new rising insert_below numbers_in add_point average vector_of face_of turned_edge add_cross vector_in area_vector enough long_enough face_area_vector face_with measured inward turned_if oriented_face left_order no_weight add_part twice_area add_triangle centre_2d tetrahedron_volume add_volume add_tetrahedron add_tetrahedra tetrahedra_of add_face_3d centre_3d geometry_in cell_geometry cell_of last face_words_of face_words_in measured_of measured_in face_of-2 table_in head_in new_face_at words_after floats_after has_key face_with_key new_face with_neighbour joining settled-2 use_face numbered_face add_face other_cell beyond add_found add_neighbour neighbours_of linked_at linked behind neighbour_behind misplaced acceptable some_below every_below one_round rounds connected_by sides_are joins share connected are_neighbours connected_cells count_below bare face_vertex sign_with no_signs add_sign face_signs signs_of may_meet widest farthest eps_of tolerance cut_of height near below above finite_axes not_unit not_orthogonal invalid origin_beyond validated normal_of along reaches in_bin pool_in passed between on_line on_edge position position_word is_within contains limits_from misses end_within run is_level crossing_within side_within reach left_reach sideless widened spared narrowest unlimited limits_of pair_from pairs_from side_from xy_within bin_along bin_for no_polygon cell_polygon_at is_listed first_holding nowhere zone_at searching zoned staying count_in polygon_in bin_from cell_polygon_in cell_polygons_in field_in is_found xy_of is_searched holds locate_where locate position_in with_position located FoundWithin AtOrBelow index_at index_along index_bin first_bin last_bin point_in slice_points side_at crossing_of close rises parted between-2 add_end add_between add_crossing shared on_plane foreign add_side add_face-2 crossings piece_in vertices_of arranged_about arranged_of angle_on earlier_on add_area area_of section_centre wide piece_about piece_of pieces_from intersect no_integral weighing is_valid add_integral finite_integral no_integrals integral_words integrals_from integrals sums_of integral_of sample_sums_of summing_of weighing_of add_probed add_to written used_of size_of project covers first_over off_plane probe has_finite_values add_vector vector_of-2 measure_of scalar_of no_sums including counted-2 summing add_sample finite_sums empty fraction_words statistics_words statistics_from statistics sample_words accumulated_of written_all stream before onward taken complete sample section_words probe_words sampled section_of statistics_of integrals_of probe_of left_by statistics_end integrals_end ended last_words missing faces_at weight_of wrong_kind missing-2 reference_of checked measured_from add_face_of add_cell partial_mesh read partial_cell_in partial_cells_in geometry_at finished finished_as area_short mesh_of case_faces mesh_from built_as sizes_for LaidOut partial_mesh_in joined completed filled from_cells listed_in aspect bin_counts are_flat are_many boundless widened-2 bounds_of polygons_in vertices_in bin_word listed_span polygons_of grid_for grid_of field_of alike add_vertex add_vertices cell_vertices about turns_about polygon_of tracer_field tracer_searching tracer_staying vertices_within located_in locate_in centre_of neighbours_of-2 distance_squared nearer_of nearest_of blended apart beside_if beside beside_nearest toward velocity_in velocity_where velocity_at from unit direction_at weighed fourth third second runge_kutta here_if rk4_step within_length step sign signed_step zone_found home_of onward-2 line_from points_after line is_length is_speed are_accepted is_nowhere nowhere-2 line_answer integrate seed_at seeds lines_words integrate_rake Allowed row unknown codes code_of is_unknown bytes_of words_at requests_in number real point refuse_if unless unused_set bad_direction ill_formed wrong_dimension direction options settings streamline rake_of rake over_field plane_of statistics-2 over_plane planar search_of plain_code is_planar by_code request_of room_in counts_in Servable Shortage room_from room_of requests_wrong shortage prepared left_under cell_word located_words velocity_words serve_flat serve_solid serve answer_to job_of outcome number_of result_of is_flat reply_to serve_all
computing = tt
